-- The numbers of a table's rows, in eleven places each, and the lines that are made from them.
use Rattle.std.specs.Prelude.{ℕ, ◌+◌, ◌≤◌, ◌<◌, ◌≡◌, ℤ}
use mathlib.Core.List.{List, [], ◌∷◌}
use Rattle.std.proofs.Math.Numerals.{add-one}
use Rattle.std.proofs.Math.IntN.{pos}
use Rattle.std.proofs.Math.ListN.{length-append}
use Rattle.integer.specs.Matrix.{matrix_of}
use Rattle.integer.specs.laws.Tabulate.{get_d_tabulate, length-tabulate, take-tabulate}
use Rattle.text.specs.Rows.{Wide, row_line}
use Rattle.job_table.specs.Table.{line_s}
use Rattle.job_table.specs.inner.Rows.{table_row, table_rows}

module _ (n : ℕ) (us : List ℤ) where
  pub rows-wide : Wide (table_rows n us)
  unfolding table_rows table_row
  rows-wide = record { wide = λ i h. rw (get_d_tabulate 8 (table_row n us) i [] h, length-append, length-tabulate) }

  pub row-line : n ≤ 8 → (i : ℕ) → i < 8 → row_line 83 (n + 1) (table_rows n us) i ≡ line_s n (matrix_of n us) i
  unfolding table_rows table_row
  row-line h i l = rw (get_d_tabulate 8 (table_row n us) i [] l, add-one n, take-tabulate n 8 (matrix_of n us i) (pos 0 ∷ pos 0 ∷ []) h)
