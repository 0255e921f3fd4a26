-- The search for a loose pair, a pair at a time.
use mathlib.Core.Path.{◌≡◌, refl}
use mathlib.Core.List.{List, [], ◌∷◌}
use Prim.Native.Nat.{ℕ, suc, ◌≤◌, ◌<◌}
use native.Mathlib.Omega.{arith}
use lib.IntN.{nat_abs}
use borrow.Author.Tests.{lt-ltb, le-ltb}
use Rattle.integer.specs.Matrix.{Matrix}
use Rattle.ledger.specs.Pairs.{Pair, Each}
use Rattle.record.specs.Loose.{loose_of}
use Rattle.record.specs.declared.query.Answer.TheVariants.{Pair as PairIs}

module _ (a : Matrix) (t : ℕ) (pair : Pair) (pairs : List Pair) where
  pub passed : nat_abs (a pair.p pair.q) ≤ t → loose_of a t (pair ∷ pairs) ≡ loose_of a t pairs
  unfolding loose_of
  passed l = rw (le-ltb t _ l)

  pub found : t < nat_abs (a pair.p pair.q) → loose_of a t (pair ∷ pairs) ≡ PairIs (suc pair.p) (suc pair.q)
  unfolding loose_of
  found l = rw (lt-ltb t _ l)

-- of two matrices that agree below n, at pairs below n
pub same-loose : (n : ℕ) (a b : Matrix) (t : ℕ) (pairs : List Pair) → Each n pairs → ((i j : ℕ) → i < n → j < n → a i j ≡ b i j) →
    loose_of a t pairs ≡ loose_of b t pairs
unfolding loose_of Each
same-loose n a b t [] all same = refl
same-loose n a b t (pair ∷ pairs) all same =
    rw (same pair.p pair.q (omega (arith, all.0.ordered, all.0.within)) all.0.within, same-loose n a b t pairs all.1 same)
