-- The kept matrix and axes: flat lists of 64 entries, 8 to a row.
use Rattle.std.specs.Prelude.{ℕ, ◌+◌, ◌*◌, ◌/◌, ◌%◌, List, ℤ, pos, get_or}
use Rattle.integer.specs.Matrix.{Matrix}
use Rattle.integer.specs.Tabulate.{tabulate}
use Rattle.turn.specs.Turn.{eight}

-- the entry in row i and column j
unfoldable pub kept_entry : List ℤ → Matrix
kept_entry a i j = get_or a (8 * i + j) (pos 0)

-- row i, and all rows
unfoldable pub entries_of : List ℤ → ℕ → List ℤ
entries_of a i = eight (kept_entry a i)

unfoldable pub rows_of : List ℤ → List (List ℤ)
rows_of a = eight (entries_of a)

-- the flat list of a matrix
unfoldable pub flat_of : Matrix → List ℤ
flat_of a = tabulate 64 (λ k. a (k / 8) (k % 8))
