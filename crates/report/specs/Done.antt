-- What the reports of a run and of a table require, and what they ensure; and what runs do.
use Rattle.std.specs.Prelude.{ℕ, ◌*◌, ◌≤◌, ◌≡◌, List, Result, length, take}
use Rattle.limits.specs.Limits.{most_samples, most_sweeps}
use Rattle.record.specs.Kept.{Kept}
use Rattle.record.specs.Run.{Run}
use Rattle.run.specs.Run.{Allowed, table_run}
use Rattle.scatter.specs.declared.table.Table.{Table}
use Rattle.text.specs.Written.{Writes}
use Rattle.refusal.specs.declared.Refusal.{Refusal}
use Rattle.report.specs.Report.{run_report}

-- a run that is over, on the table of at most 256 samples
pub record Reportable (z : Run) (k : ℕ) : Type 0 where
  pub keeps : Kept z.last
  pub sweeps : z.sweeps ≤ most_sweeps
  pub samples : k ≤ most_samples

-- the report is written, or refused 12; it has at most 2048 bytes
pub record ReportsRun (z : Run) (k : ℕ) (entry exit : List ℕ) (r : Result ℕ Refusal) : Type 0 where
  pub writes : Writes 0 (run_report k z) entry exit r
  pub short : length (run_report k z) ≤ 2048

-- the run of a table, on its first n × n entries and its e
unfoldable pub run_of_table : ℕ → ℕ → ℕ → Table → Run
run_of_table n limit tolerance t = table_run n (take (n * n) t.entries) t.e limit tolerance

-- a table that a run may load, of at most 256 samples
pub record TableReportable (n k limit tolerance : ℕ) (t : Table) : Type 0 where
  pub allowed : Allowed n (take (n * n) t.entries) limit tolerance
  pub size : length t.entries ≡ 64
  pub samples : k ≤ most_samples

-- a table that a run may load
pub record TableRunnable (n limit tolerance : ℕ) (t : Table) : Type 0 where
  pub allowed : Allowed n (take (n * n) t.entries) limit tolerance
  pub size : length t.entries ≡ 64

-- a run that is over is the one that is meant; its record is kept, and its sweeps are at most 16
pub record Ran (meant z : Run) : Type 0 where
  pub is : z ≡ meant
  pub keeps : Kept z.last
  pub sweeps : z.sweeps ≤ most_sweeps
