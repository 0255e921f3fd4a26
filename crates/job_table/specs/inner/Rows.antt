-- The numbers of a table's rows, in eleven places each.
use Rattle.std.specs.Prelude.{ℕ, ◌+◌, List, [], ◌∷◌, ◌++◌, ℤ, pos}
use Rattle.integer.specs.Matrix.{matrix_of}
use Rattle.integer.specs.Tabulate.{tabulate}

-- The channel, eight numbers of which the first n are its row, and two that no line has
unfoldable pub table_row : ℕ → List ℤ → ℕ → List ℤ
table_row n us i = pos (i + 1) ∷ (tabulate 8 (matrix_of n us i) ++ (pos 0 ∷ pos 0 ∷ []))

unfoldable pub table_rows : ℕ → List ℤ → List (List ℤ)
table_rows n us = tabulate 8 (table_row n us)
