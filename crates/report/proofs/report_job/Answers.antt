-- `report::report_job` meets its contract: the report of the job's table is the job's.
use Prim.Native.Nat.{ℕ}
use mathlib.Core.Path.{◌≡◌}
use mathlib.Core.List.{List}
use Rattle.std.specs.Prelude.{Result}
use Rattle.std.proofs.lemmas.Result.{err_from_is_err_and}
use Rattle.job.specs.Job.{accepted}
use Rattle.job.specs.Reply.{Answers}
use Rattle.job.specs.laws.Replying.{as_reply, written-answers}
use Rattle.job.specs.Held.{Held, job_in}
use Rattle.job.specs.JobArrays.{JobArrays}
use Rattle.job.specs.laws.Held.{samples-held}
use Rattle.job_table.specs.JobTable.{table_for}
use Rattle.refusal.specs.declared.Refusal.{Refusal}
use Rattle.scatter.specs.declared.table.Table.{Table}
use Rattle.report.specs.Done.{ReportsRun, TableReportable, run_of_table}
use Rattle.report.specs.Report.{report_of}
use Rattle.report.proofs.Bounds.{table-reportable, table-reports}
use Rattle.report.proofs.report_job.Goals as goal

-- arrays that hold a job, and the job's table
module _ (a : JobArrays) (h : Held a) (t : Table) (e : t ≡ table_for (job_in a)) where
  reportable : TableReportable a.n a.k a.limit a.tolerance t
  unfolding job_in
  reportable = table-reportable (job_in a) h.proper t e a.k (samples-held a h)

  answers : {entry exit : List ℕ} {w : Result ℕ Refusal} → ReportsRun (run_of_table a.n a.limit a.tolerance t) a.k entry exit w →
      Answers report_of (accepted (job_in a)) entry exit (as_reply w)
  unfolding job_in
  answers r =
      let done = table-reports (job_in a) h.proper t e a.k (samples-held a h) r in
      written-answers report_of (job_in a) done.1 _ done.0

pub report_table-requires : goal.report_table-requires
report_table-requires c = reportable _ c.job.invariant _ (rw (← c.job.view_is) at c.table_of-table.ensures)

-- the writer's refusal, with line 0
pub returns-in_err-length : goal.returns-in_err-length
unfolding as_reply
returns-in_err-length c =
    let p = err_from_is_err_and c.from_residual.result c.from_residual.ensures.1 in
    rw (p.1, p.2, ← c.job.view_is)
    (answers _ c.job.invariant _ (rw (← c.job.view_is) at c.table_of-table.ensures) (rw c.in_err-length.was at c.report_table.ensures))

pub returns : goal.returns
unfolding as_reply
returns c =
    rw (← c.job.view_is)
    (answers _ c.job.invariant _ (rw (← c.job.view_is) at c.table_of-table.ensures) (rw c.in_ok-length.was at c.report_table.ensures))
