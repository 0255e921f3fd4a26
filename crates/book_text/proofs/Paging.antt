-- The texts that the writers put together.
use Prim.Native.Nat.{ℕ, ◌+◌, ◌-◌, ◌*◌, ◌≤◌, ◌<◌}
use mathlib.Core.Path.{◌≡◌, sym, ap, ◌∙◌}
use mathlib.Core.List.{List, [], ◌∷◌, ◌++◌, map-append, append_assoc, append-nil}
use native.Mathlib.Numerals.{add-one}
use native.Mathlib.Omega.{arith}
use lib.ListN.{length, length-drop, take, drop, get_or, replicate}
use lib.Seq.{length-take-le, take-suc}
use Rattle.sums.specs.declared.Sums.{Sums}
use Rattle.text.specs.Decimal.{digits}
use Rattle.text.specs.Line.{line, further}
use Rattle.text.specs.laws.Numbers.{further-append}
use Rattle.book_text.specs.Answers.{cross_row, cross_rows, sums_line}
use Rattle.book_text.specs.inner.Played.{naturals}

naturals-append : (xs ys : List ℕ) → naturals (xs ++ ys) ≡ naturals xs ++ naturals ys
unfolding naturals
naturals-append xs ys = rw (map-append, further-append)

naturals-one : (x : ℕ) → naturals (x ∷ []) ≡ 9 ∷ digits x
unfolding naturals further
naturals-one x = append-nil (9 ∷ digits x)

-- one natural more
pub naturals-more : (xs : List ℕ) (i : ℕ) → i < length xs → naturals (take (i + 1) xs) ≡ naturals (take i xs) ++ (9 ∷ digits (get_or xs i 0))
naturals-more xs i h = rw (add-one, take-suc xs i 0 h, naturals-append, naturals-one)

-- one row more
pub rows_more : (n : ℕ) (cross : List ℕ) (i : ℕ) →
    naturals (cross_rows n cross (i + 1)) ≡ naturals (cross_rows n cross i) ++ naturals (cross_row n cross i)
unfolding cross_rows
rows_more n cross i = rw (add-one, naturals-append)

pub sums-text : (n : ℕ) (t : Sums) → (90 ∷ []) ++ (9 ∷ digits t.k) ++ naturals (take n t.channel) ++ naturals (cross_rows n t.cross n) ++
    (10 ∷ [])
    ≡ sums_line n t
unfolding sums_line line naturals further
sums-text n t =
    ap (λ (l : List ℕ). l ++ (10 ∷ []))
    (append_assoc (90 ∷ 9 ∷ digits t.k) (naturals (take n t.channel)) (naturals (cross_rows n t.cross n))
    ∙ ap (λ (l : List ℕ). (90 ∷ 9 ∷ digits t.k) ++ l) (sym (naturals-append (take n t.channel) (cross_rows n t.cross n))))

-- row i as it is read: from 8 × i + i to before 8 × i + n
module _ (n : ℕ) (cross : List ℕ) (i : ℕ) (l : length cross ≡ 64) (few : n ≤ 8) (h : i < n) where
  width : 8 * i + n - 9 * i ≡ n - i
  width = omega arith

  pub row_read : take (8 * i + n - 9 * i) (drop (9 * i) cross) ≡ cross_row n cross i
  unfolding cross_row
  row_read = rw width

  pub row-size : length (take (8 * i + n - 9 * i) (drop (9 * i) cross)) ≡ n - i
  row-size = rw width (length-take-le (n - i) (drop (9 * i) cross) (rw (length-drop (9 * i) cross, l) (omega arith)))
