-- A matrix that is filled row by row.
use mathlib.Core.Path.{◌≡◌, refl, sym, ◌∙◌}
use mathlib.Core.Bool.{cond}
use mathlib.Core.List.{[]}
use Prim.Native.Nat.{ℕ, ◌+◌, ◌<◌}
use native.Mathlib.Decide.{dec_lt, ℕ_discrete}
use native.Mathlib.Omega.{arith}
use lib.Dec.{eqb, ltb}
use lib.IntN.{pos}
use lib.ListN.{get_or, set}
use borrow.Author.Tests.{eq-eqb, le-ltb, lt-ltb, ne_eqb}
use Rattle.integer.specs.Matrix.{Matrix}
use Rattle.integer.specs.laws.Tests.{cond_same, next-test}
use Rattle.turn.specs.laws.Eight.{square-cong}
use Rattle.turn.specs.laws.Stored.{store, stored, stored-column, stored_here, stored_row}
use Rattle.turn.specs.Turn.{eight, square}
use Rattle.turn.specs.InUse.{in_use}
use Rattle.record.specs.Blank.{blank}

module _ (n : ℕ) (f : Matrix) where
  -- the rows before i, and the first j entries of row i
  unfoldable pub filled_to : ℕ → ℕ → Matrix
  filled_to i j x y = cond (ltb x i) (in_use n f x y) (cond (eqb x i) (cond (ltb y j) (f x y) (pos 0)) (pos 0))

  -- an entry after one store, after a row, and after all rows
  pub one : (i j x y : ℕ) → stored i j (f i j) (filled_to i j) x y ≡ filled_to i (j + 1) x y
  unfolding filled_to
  one i j x y = by (ℕ_discrete x i) (ℕ_discrete y j)
    where
      by : Dec (x ≡ i) → Dec (y ≡ j) → stored i j (f i j) (filled_to i j) x y ≡ filled_to i (j + 1) x y
      by (yes e) (yes d) =
          rw (e, d, stored_here i j (f i j) (filled_to i j), le-ltb i i (omega arith), eq-eqb i i refl, lt-ltb j (j + 1) (omega arith))
      by (yes e) (no d) =
          stored-column i j (f i j) (filled_to i j) x y d ∙ rw (e, le-ltb i i (omega arith), eq-eqb i i refl, next-test j y d)
      by (no e) d = stored_row i j (f i j) (filled_to i j) x y e ∙ rw (ne_eqb x i e)

  pub row : (i x y : ℕ) → i < n → filled_to i n x y ≡ filled_to (i + 1) 0 x y
  unfolding filled_to in_use
  row i x y h = by (ℕ_discrete x i) (dec_lt x i)
    where
      nothing : pos 0 ≡ cond (eqb x (i + 1)) (cond (ltb y 0) (f x y) (pos 0)) (pos 0)
      nothing = rw (le-ltb y 0 (omega arith)) (sym (cond_same (eqb x (i + 1)) (pos 0)))

      by : Dec (x ≡ i) → Dec (x < i) → filled_to i n x y ≡ filled_to (i + 1) 0 x y
      by (yes e) l = rw (e, le-ltb i i (omega arith), eq-eqb i i refl, lt-ltb i (i + 1) (omega arith), lt-ltb i n h)
      by (no e) (yes l) = rw (lt-ltb x i l, lt-ltb x (i + 1) (omega arith))
      by (no e) (no l) = rw (le-ltb x i (omega arith), ne_eqb x i e, le-ltb x (i + 1) (omega arith)) nothing

  pub all : (x y : ℕ) → filled_to n 0 x y ≡ in_use n f x y
  unfolding filled_to in_use
  all x y = by (dec_lt x n)
    where
      by : Dec (x < n) → filled_to n 0 x y ≡ in_use n f x y
      by (yes l) = rw (lt-ltb x n l)
      by (no l) = rw (le-ltb x n (omega arith), le-ltb y 0 (omega arith)) (cond_same (eqb x n) (pos 0))

  -- in rows
  pub rows_none : blank ≡ square (filled_to 0 0)
  unfolding blank eight filled_to
  rows_none = refl

  pub rows-one : (i j : ℕ) → i < 8 → j < 8 →
      set (square (filled_to i j)) i (set (get_or (square (filled_to i j)) i []) j (f i j)) ≡ square (filled_to i (j + 1))
  rows-one i j h k = store (filled_to i j) i j (f i j) h k ∙ square-cong (λ x y _ _. one i j x y)

  pub rows_row : (i : ℕ) → i < n → square (filled_to i n) ≡ square (filled_to (i + 1) 0)
  rows_row i h = square-cong (λ x y _ _. row i x y h)

  pub rows_all : square (filled_to n 0) ≡ square (in_use n f)
  rows_all = square-cong (λ x y _ _. all x y)
