-- What private functions promise: The numbers of an axis: a_ii and r_i, which an axis call answers, and the row beside them. How many they are,
-- and that r_i is below 2^63.
use Rattle.std.specs.Prelude.{ℕ, suc, List, ◌∷◌, ◌++◌, ℤ, pos, replicate}
use Rattle.ledger.specs.Call.{axis}
use Rattle.turn.specs.inner.Eight.{front}
use Rattle.record.specs.Record.{answer_to, row_to}
use Rattle.record.specs.Run.{own}
use Rattle.record.specs.declared.Record.{Record}
use Rattle.report.specs.AxisNumbers.{axis_values}

-- i, a_ii, r_i and the eight entries of row i of v
unfoldable pub axis_numbers : Record → ℕ → List ℤ
axis_numbers r i = pos i ∷ (axis_values (answer_to r (own (axis i))) ++ row_to r (own (axis i)))

-- those of axes 1 to n, and zeros after them
unfoldable pub axes_numbers : Record → List (List ℤ)
axes_numbers r = front (λ i. axis_numbers r (suc i)) (replicate 11 (pos 0)) r.solver.n
