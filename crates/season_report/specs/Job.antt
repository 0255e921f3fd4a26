-- Document 02, W14: what a job of the season comes to. Its text is refused under a number from 1 to 4, or its run ends as settled, still or spent,
-- with the turns that it made and an error r_i for each axis.
use Rattle.std.specs.Prelude.{ℕ, suc, Bool, true, false, List, [], eqb, nat_abs, pos, get_or}
use Rattle.integer.specs.Tabulate.{tabulate}
use Rattle.job.specs.Job.{Answer as JobAnswer, accepted, job_of, refused}
use Rattle.ledger.specs.Call.{axis}
use Rattle.record.specs.Record.{answer_to}
use Rattle.record.specs.Run.{Run, own}
use Rattle.record.specs.declared.query.Answer.{Answer}
use Rattle.record.specs.declared.run.Outcome.{Outcome}
use Rattle.record.specs.declared.run.Outcome.TheVariants.{Settled, Still, Spent}
use Rattle.record.specs.declared.Record.{Record}
use Rattle.report.specs.AxisNumbers.{axis_values}
use Rattle.report.specs.Report.{run_for}

-- refused under a number, or run
pub data JobEnd : Type 0 where
  refused_under : ℕ → JobEnd
  ran : Run → JobEnd

unfoldable pub end_by : JobAnswer → JobEnd
end_by (refused number line) = refused_under number
end_by (accepted j) = ran (run_for j)

unfoldable pub end_of : List ℕ → JobEnd
end_of text = end_by (job_of text)

-- 'how many were refused under each number'
unfoldable pub is_refused_under : ℕ → JobEnd → Bool
is_refused_under number (refused_under other) = eqb other number
is_refused_under number (ran z) = false

-- 'how many ended settled, still and spent'
unfoldable pub is_settled : Outcome → Bool
is_settled Settled = true
is_settled Still = false
is_settled Spent = false

unfoldable pub is_still : Outcome → Bool
is_still Settled = false
is_still Still = true
is_still Spent = false

unfoldable pub is_spent : Outcome → Bool
is_spent Settled = false
is_spent Still = false
is_spent Spent = true

unfoldable pub ended_as : (Outcome → Bool) → JobEnd → Bool
ended_as test (refused_under number) = false
ended_as test (ran z) = test z.outcome

-- 'total turns': m of the record that the run leaves
unfoldable pub job_turns : JobEnd → ℕ
job_turns (refused_under number) = 0
job_turns (ran z) = z.last.solver.m

-- r_i, as the report's `A` line of the axis has it: the second of the numbers before its row
unfoldable pub error_in : Answer → ℕ
error_in answer = nat_abs (get_or (axis_values answer) 1 (pos 0))

abbrev pub error_at : Record → ℕ → ℕ
error_at r i = error_in (answer_to r (own (axis i)))

-- r_1 to r_n of the record that a run leaves
unfoldable pub record_errors : Record → List ℕ
record_errors r = tabulate r.solver.n (λ i. error_at r (suc i))

-- a refused job has none
unfoldable pub errors_of : JobEnd → List ℕ
errors_of (refused_under number) = []
errors_of (ran z) = record_errors z.last
