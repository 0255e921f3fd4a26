-- A run and its axes as numbers, and the refusals before it.
use Rattle.std.specs.Prelude.{ℕ, zero, suc, ◌+◌, ◌*◌, cond, ◌&&◌, List, [], ◌∷◌, ◌++◌, eqb, leb, ℤ, pos, take}
use Rattle.ledger.specs.Call.{axis, load}
use Rattle.ledger.specs.Refusal.{refusal_of}
use Rattle.limits.specs.Unless.{unless}
use Rattle.limits.specs.Limits.{least_sweeps, most_sweeps, tolerance_limit}
use Rattle.report.specs.AxisNumbers.{axis_values}
use Rattle.record.specs.Record.{answer_to, row_to}
use Rattle.record.specs.Run.{Run, own}
use Rattle.record.specs.declared.Record.{Record}
use Rattle.run.specs.Run.{run_of}
use Rattle.record.specs.declared.run.Outcome.{Outcome}
use Rattle.record.specs.declared.run.Outcome.TheVariants.{Settled, Still, Spent}

unfoldable pub outcome_number : Outcome → ℕ
outcome_number Settled = 0
outcome_number Still = 1
outcome_number Spent = 2

-- a_ii, r_i and the n numbers of row i of v
unfoldable pub axis_solution : ℕ → Record → ℕ → List ℤ
axis_solution n r i = axis_values (answer_to r (own (axis i))) ++ take n (row_to r (own (axis i)))

-- for i = 1 to `last`
unfoldable pub axes : ℕ → Record → ℕ → List ℤ
axes n r zero = []
axes n r (suc last) = axes n r last ++ axis_solution n r (suc last)

-- outcome, sweeps run, m, and the axes 1 to n
unfoldable pub solution : ℕ → Run → List ℤ
solution n z =
    (pos (outcome_number z.outcome) ∷ pos z.sweeps ∷ pos z.last.solver.m ∷ []) ++ axes n z.last n

unfoldable pub solution_of : ℕ → List ℤ → ℕ → ℕ → List ℤ
solution_of n numbers limit t = solution n (run_of n numbers limit t)

-- Those of the load, then 2 for a limit outside 1..16 or a tolerance out of its range, then 12 for a buffer of fewer numbers
unfoldable pub solve_refusal : ℕ → List ℤ → ℕ → ℕ → ℕ → ℕ
solve_refusal n numbers limit t size =
    cond (eqb (refusal_of 0 0 (load n numbers)) 0)
    (unless (leb least_sweeps limit && (leb limit most_sweeps && leb t tolerance_limit)) 2 (unless (leb (3 + n * (n + 2)) size) 12 0))
    (refusal_of 0 0 (load n numbers))
