-- Document 01, 'Loose pair t', and document 02, W2: the answer, and what holds of it.
use Rattle.std.specs.Prelude.{◌≡◌, cond, List, [], ◌∷◌, ◌⊎◌, ℕ, suc, ◌-◌, ◌≤◌, ◌<◌, ltb, nat_abs}
use Rattle.integer.specs.Matrix.{Matrix}
use Rattle.ledger.specs.Pairs.{Pair}
use Rattle.record.specs.declared.query.Answer.{Answer}
use Rattle.record.specs.declared.query.Answer.TheVariants.{Pair as PairIs, NoPair}

-- Loose pair t: the first of the given pairs with |a_pq| > t units, and none where there is none
unfoldable pub loose_of : Matrix → ℕ → List Pair → Answer
loose_of a t [] = NoPair
loose_of a t (pair ∷ pairs) =
    cond (ltb t (nat_abs (a pair.p pair.q))) (PairIs (suc pair.p) (suc pair.q)) (loose_of a t pairs)

-- From here on p and q count from 1, as the answer does; the matrix counts from 0.
abbrev pub IsPair : ℕ → ℕ → ℕ → Type 0
IsPair n p q = (1 ≤ p) × (p < q) × (q ≤ n)

-- row order, (1,2), (1,3) .. (1,n), (2,3) .. (n−1,n): (p',q') comes before (p,q)
abbrev pub Before : ℕ → ℕ → ℕ → ℕ → Type 0
Before p' q' p q = (p' < p) ⊎ ((p' ≡ p) × (q' < q))

-- |a_pq|: the entry's size, whatever its sign
abbrev pub size_at : Matrix → ℕ → ℕ → ℕ
size_at a p q = nat_abs (a (p - 1) (q - 1))

-- the first pair in row order whose entry exceeds t in size
pub record IsFirst (n : ℕ) (a : Matrix) (t p q : ℕ) : Type 0 where
  pub pair : IsPair n p q
  pub exceeds : t < size_at a p q
  pub none_before : (p' q' : ℕ) → IsPair n p' q' → Before p' q' p q → size_at a p' q' ≤ t

abbrev pub NoneExceeds : ℕ → Matrix → ℕ → Type 0
NoneExceeds n a t = (p q : ℕ) → IsPair n p q → size_at a p q ≤ t

abbrev pub PairOrNone : Answer → Type 0
PairOrNone answer = ((p : ℕ) × (q : ℕ) × (answer ≡ PairIs p q)) ⊎ (answer ≡ NoPair)

-- The answer is a pair or none; a pair is the first, and it is none exactly when no entry exceeds t.
pub record FirstLoose (n : ℕ) (a : Matrix) (t : ℕ) (answer : Answer) : Type 0 where
  pub pair-or-none : PairOrNone answer
  pub pair-is-first : (p q : ℕ) → answer ≡ PairIs p q → IsFirst n a t p q
  pub none-only-if-none : answer ≡ NoPair → NoneExceeds n a t
  pub none-if-none : NoneExceeds n a t → answer ≡ NoPair
