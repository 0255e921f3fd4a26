-- Laws of the loops that check the numbers of a load.
use mathlib.Core.Path.{◌≡◌, refl, sym, ap}
use mathlib.Core.Bool.{Bool, true, false, ◌&&◌}
use mathlib.Core.List.{List, [], ◌∷◌}
use Rattle.std.specs.List.{list_all}
use Prim.Native.Nat.{ℕ, ◌+◌, ◌*◌, ◌<◌, ◌≤◌}
use native.Mathlib.Decide.{dec_lt}
use native.Mathlib.Numerals.{add-one}
use native.Mathlib.Omega.{arith}
use lib.Dec.{T, leb}
use lib.IntN.{ℤ, nat_abs}
use lib.ListN.{length}
use borrow.Author.Tests.{le-leb, eq-eqb}
use Rattle.integer.specs.Range.{all}
use Rattle.integer.specs.laws.Range.{below, from_each}
use Rattle.ledger.specs.laws.Accepted.{equal_of, equal-same}
use Rattle.ledger.specs.Call.{load}
use Rattle.limits.specs.Limits.{entry_limit}
use Rattle.limits.specs.Unless.{unless}
use Rattle.ledger.specs.Refusal.{equal, refusal_of, refusal_under, symmetric, entries_within}
use Rattle.integer.specs.Matrix.{Matrix, matrix_of}

-- tests that imply one another are equal
same_test : (a b : Bool) → (T a → T b) → (T b → T a) → a ≡ b
same_test true true f g = refl
same_test true false f g = absurd (f tt)
same_test false true f g = absurd (g tt)
same_test false false f g = refl

-- a test at every number below a bound: one more, one that fails, and from each
pub all_more : (f : ℕ → Bool) (k : ℕ) → all f k ≡ true → f k ≡ true → all f (k + 1) ≡ true
all_more f k e t = rw (add-one, e, t)

pub all-fails : (f : ℕ → Bool) (n k : ℕ) → k < n → f k ≡ false → false ≡ all f n
all-fails f n k h e = same_test false (all f n) (λ t. absurd t) (λ t. rw e at (below f n t k h))

-- the test of equality
pub equal-yes : (x y : ℤ) → x ≡ y → equal x y ≡ true
equal-yes x y e = same_test (equal x y) true (λ t. tt) (λ t. equal_of x y e)

pub equal-no : (x y : ℤ) → (x ≡ y → ⊥) → equal x y ≡ false
equal-no x y d = same_test (equal x y) false (λ t. d (equal-same x y t)) (λ t. absurd t)

-- whether an entry is its mirror's equal; a matrix is symmetric if every entry left of the diagonal is
abbrev pub mirrored : Matrix → ℕ → ℕ → Bool
mirrored a i j = equal (a i j) (a j i)

pub symmetric-left : (n : ℕ) (a : Matrix) → symmetric n a ≡ all (λ i. all (mirrored a i) i) n
unfolding symmetric
symmetric-left n a = same_test _ _ from_all from-left
  where
    from_all : T (all (λ i. all (mirrored a i) n) n) → T (all (λ i. all (mirrored a i) i) n)
    from_all t = from_each _ n (λ i h. from_each _ i (λ j k. below _ n (below _ n t i h) j (omega arith)))

    from-left : T (all (λ i. all (mirrored a i) i) n) → T (all (λ i. all (mirrored a i) n) n)
    from-left t = from_each _ n (λ i h. from_each _ n (λ j k. by_order i j h k (dec_lt j i) (dec_lt i j)))
      where
        left : (i j : ℕ) → i < n → j < i → T (mirrored a i j)
        left i j h l = below _ i (below _ n t i h) j l

        by_order : (i j : ℕ) → i < n → j < n → Dec (j < i) → Dec (i < j) → T (mirrored a i j)
        by_order i j h k (yes l) g = left i j h l
        by_order i j h k (no l) (yes g) = equal_of _ _ (sym (equal-same (a j i) (a i j) (left j i k g)))
        by_order i j h k (no l) (no g) = let e : i ≡ j = omega arith in equal_of _ _ (rw e)

-- the test of each number, as the library has it
pub all-entries : (xs : List ℤ) → list_all (λ x. leb (nat_abs x) entry_limit) xs ≡ entries_within entry_limit xs
unfolding entries_within
all-entries [] = refl
all-entries (x ∷ xs) = ap (λ b. leb (nat_abs x) entry_limit && b) (all-entries xs)

-- the tests of a load after those of its size
pub sized : (k : ℕ) (xs : List ℤ) → 2 ≤ k → k ≤ 8 → length xs ≡ k * k →
    refusal_of 0 0 (load k xs) ≡ unless (entries_within entry_limit xs) 8 (unless (symmetric k (matrix_of k xs)) 7 0)
unfolding refusal_under
sized k xs h l e = rw (le-leb 2 k h, le-leb k 8 l, eq-eqb (length xs) (k * k) e)
