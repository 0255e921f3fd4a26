-- The record that a call of one of the four benches leaves, by its answer and the state that it leaves.
use Rattle.std.specs.Prelude.{ℕ, cond, List}
use Rattle.record.specs.Record.{is_refused, raised}
use Rattle.record.specs.declared.Record.{Record}
use Rattle.record.specs.declared.query.Answer.{Answer}
use Rattle.record.specs.declared.solver.Solver.{Solver}

unfoldable pub counts_left : List ℕ → ℕ → Answer → List ℕ
counts_left counts bench answer = cond (is_refused answer) (raised bench counts) counts

abbrev pub left_with : List ℕ → ℕ → Answer → Solver → Record
left_with counts bench answer solver = record { solver = solver; refused = counts_left counts bench answer }
