-- The run of a job as calls: none is refused, its sweeps are at most 16, and its record has the job's channels; it is the run of the job's table,
-- and so the report of the table is the job's.
use mathlib.Core.Path.{◌≡◌}
use mathlib.Core.List.{List}
use Prim.Native.Nat.{ℕ, ◌≤◌}
use native.Mathlib.Nat.{le_trans}
use lib.ListN.{length}
use Rattle.job.specs.Job.{Job}
use Rattle.job.specs.Values.{Proper}
use Rattle.job.specs.laws.Proper.{channels, limit-most, number, samples-taken, tolerance-most}
use Rattle.job_table.specs.JobTable.{samples_of, table_for}
use Rattle.limits.specs.Limits.{most_sweeps}
use Rattle.limits.specs.laws.Values.{some-entry}
use Rattle.run.specs.laws.Calls.{AsCalls, run-calls, samples-begin, table-run-is}
use Rattle.run.specs.laws.Course.{run_ends, run-kept}
use Rattle.run.specs.laws.Table.{table-allowed}
use Rattle.record.specs.Kept.{Kept}
use Rattle.scatter.specs.declared.table.Table.{Table}
use Rattle.scatter.specs.laws.Table.{table_is}
use Rattle.text.specs.Written.{Writes}
use Rattle.std.specs.Prelude.{Result}
use Rattle.refusal.specs.declared.Refusal.{Refusal}
use Rattle.report.specs.Done.{ReportsRun, TableReportable, TableRunnable, run_of_table}
use Rattle.report.specs.Report.{load_for, report_of, run_for}

pub run-last-kept : (j : Job) → Kept (run_for j).last
unfolding run_for
run-last-kept j = run-kept (load_for j) j.limit j.tolerance

module _ (j : Job) (p : Proper j) where
  pub sweeps-most : (run_for j).sweeps ≤ most_sweeps
  unfolding run_for
  sweeps-most = le_trans (run_ends (load_for j) j.limit j.tolerance).within (limit-most j p)

  pub as-calls : AsCalls (load_for j) j.n j.tolerance (run_for j)
  unfolding run_for
  as-calls =
      run-calls (load_for j) j.n j.limit j.tolerance
      (samples-begin j.n j.dilutions j.counts j.limit j.tolerance (samples-taken j p) (limit-most j p) (tolerance-most j p))

  pub run-channels : (run_for j).last.solver.n ≡ j.n
  run-channels = as-calls.channels

  -- the job's table: a run may load it, and its run is the job's
  pub table-is-run : run_of_table j.n j.limit j.tolerance (table_for j) ≡ run_for j
  unfolding run_of_table run_for table_for samples_of
  table-is-run = table-run-is j.n j.dilutions j.counts j.limit j.tolerance (samples-taken j p)

  -- a table that is made from the job's samples
  pub table-runnable : (t : Table) → t ≡ table_for j → TableRunnable j.n j.limit j.tolerance t
  unfolding table_for
  table-runnable t e =
      let c = channels j p in
      record {
        allowed = rw e (table-allowed j.n (samples_of j) c.0 c.1 j.limit j.tolerance (limit-most j p) (tolerance-most j p));
        size = rw e (table_is j.n c.1 some-entry (samples_of j)).entries.size;
      }

  -- a table that is made from the job's k samples
  module _ (t : Table) (e : t ≡ table_for j) (k : ℕ) (many : length j.dilutions ≡ k) where
    pub table-reportable : TableReportable j.n k j.limit j.tolerance t
    table-reportable =
        let r = table-runnable t e in
        record { allowed = r.allowed; size = r.size; samples = rw (← many) (number j p).1 }

    -- its report is the job's
    pub table-reports : {entry exit : List ℕ} {w : Result ℕ Refusal} → ReportsRun (run_of_table j.n j.limit j.tolerance t) k entry exit w →
        Writes 0 (report_of j) entry exit w × (length (report_of j) ≤ 2048)
    unfolding report_of
    table-reports r = let held = rw (e, table-is-run, ← many) at r in (held.writes, held.short)
