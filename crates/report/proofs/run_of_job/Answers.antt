-- `report::run_of_job` meets its contract: the run of the job's table is the job's.
use mathlib.Core.Path.{◌≡◌, ap, ◌∙◌}
use Rattle.job.specs.Held.{Held, job_in}
use Rattle.job.specs.JobArrays.{JobArrays}
use Rattle.job_table.specs.JobTable.{table_for}
use Rattle.scatter.specs.declared.table.Table.{Table}
use Rattle.report.specs.Done.{TableRunnable, run_of_table}
use Rattle.report.specs.Report.{run_for}
use Rattle.report.proofs.Bounds.{table-is-run, table-runnable}
use Rattle.report.proofs.run_of_job.Goals as goal

-- arrays that hold a job, and the job's table
module _ (a : JobArrays) (h : Held a) (t : Table) (e : t ≡ table_for (job_in a)) where
  runnable : TableRunnable a.n a.limit a.tolerance t
  unfolding job_in
  runnable = table-runnable (job_in a) h.proper t e

  run_is : run_of_table a.n a.limit a.tolerance t ≡ run_for (job_in a)
  unfolding job_in
  run_is = ap (run_of_table a.n a.limit a.tolerance) e ∙ table-is-run (job_in a) h.proper

pub run_of_table-requires : goal.run_of_table-requires
run_of_table-requires c = runnable _ c.job.invariant _ (rw c.job.view_is c.table_of-table.ensures)

pub returns : goal.returns
returns c =
    let ran = c.run_of_table.ensures in
    record {
      is = ran.is ∙ run_is _ c.job.invariant _ (rw c.job.view_is c.table_of-table.ensures) ∙ ap (λ a. run_for (job_in a)) c.job.view_is;
      keeps = ran.keeps;
      sweeps = ran.sweeps;
    }
