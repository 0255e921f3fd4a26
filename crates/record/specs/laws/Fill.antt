-- Entries of a flat list, and of its rows.
use Rattle.std.specs.Prelude.{◌≡◌, List, ℕ, ◌+◌, ◌*◌, ◌/◌, ◌%◌, ◌<◌, ℤ, pos, get_or, length}
use Rattle.std.proofs.Common.{sym, ap, ◌∙◌, arith, ext_get_or}
use Rattle.integer.specs.laws.Tabulate.{get_d_tabulate, length-tabulate}
use Rattle.turn.specs.laws.Eight.{at-eight, shaped-square}
use Rattle.turn.specs.Shape.{Shaped}
use Rattle.turn.specs.Turn.{at}
use Rattle.record.specs.Flat.{kept_entry, entries_of, rows_of, flat_of}

pub kept-flat_of : (f : ℕ → ℕ → ℤ) (i j : ℕ) → i < 8 → j < 8 → kept_entry (flat_of f) i j ≡ f i j
unfolding kept_entry flat_of
kept-flat_of f i j h k = get_d_tabulate 64 (λ k. f (k / 8) (k % 8)) (8 * i + j) (pos 0) (omega arith) ∙ rw (row, column)
  where
    row : (8 * i + j) / 8 ≡ i
    row = omega arith

    column : (8 * i + j) % 8 ≡ j
    column = omega arith

pub at-rows_of : (a : List ℤ) (i j : ℕ) → i < 8 → j < 8 → at (rows_of a) i j ≡ kept_entry a i j
unfolding rows_of entries_of
at-rows_of a i j h k = at-eight (kept_entry a) i j h k

pub shaped-rows : (a : List ℤ) → Shaped (rows_of a)
unfolding rows_of entries_of
shaped-rows a = shaped-square (kept_entry a)

pub length-flat : (f : ℕ → ℕ → ℤ) → length (flat_of f) ≡ 64
unfolding flat_of
length-flat f = length-tabulate 64 (λ k. f (k / 8) (k % 8))

flat-entry : (a : List ℤ) (k : ℕ) → k < 64 → get_or (flat_of (at (rows_of a))) k (pos 0) ≡ get_or a k (pos 0)
unfolding flat_of kept_entry
flat-entry a k l =
    let place : 8 * (k / 8) + k % 8 ≡ k = omega arith in
    get_d_tabulate 64 (λ k. at (rows_of a) (k / 8) (k % 8)) k (pos 0) l ∙ at-rows_of a (k / 8) (k % 8) (omega arith) (omega arith)
    ∙ ap (λ p. get_or a p (pos 0)) place

-- a flat list of 64 entries, in rows and flat again
pub flat_rows : (a : List ℤ) → length a ≡ 64 → flat_of (at (rows_of a)) ≡ a
flat_rows a e =
    ext_get_or (pos 0) _ a (length-flat (at (rows_of a)) ∙ sym e) (λ k l. flat-entry a k (rw (length-flat (at (rows_of a))) at l))
