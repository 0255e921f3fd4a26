-- S by the layout of the sums: what the functions that are handed sums compute.
use Rattle.std.specs.Prelude.{List, ℕ, ◌+◌, ◌*◌, min, max, ℤ, pos, ◌-ℤ◌, get_or}
use Rattle.integer.specs.Matrix.{Matrix, row_major}
use Rattle.sums.specs.declared.Sums.{Sums}

unfoldable pub SBySums : Sums → Matrix
SBySums t i j =
    pos (t.k * get_or t.cross (8 * min i j + max i j) 0) -ℤ pos (get_or t.channel i 0 * get_or t.channel j 0)

unfoldable pub scatter_by_sums : ℕ → Sums → List ℤ
scatter_by_sums n t = row_major n (SBySums t)
