-- What the writer of a pooled report does to a lent buffer: 13, then 2, 6 and 3, and 'last a short buffer 12'.
use Rattle.std.specs.Prelude.{ℕ, ◌≤◌, ◌≡◌, List, Result, length}
use Rattle.job.specs.Job.{Job}
use Rattle.report.specs.Report.{report_of}
use Rattle.text.specs.Written.{Writes}
use Rattle.refusal.specs.declared.Refusal.{Refusal}
use Rattle.job_pool.specs.Pooled.{pooled_job}
use Rattle.job_pool.specs.Refusal.{pool_refusal}

pub record WritesPooled (a b : Job) (entry exit : List ℕ) (r : Result ℕ Refusal) : Type 0 where
  pub writes : Writes (pool_refusal a b) (report_of (pooled_job a b)) entry exit r
  -- a report that is not refused has at most 2048 bytes
  pub short : pool_refusal a b ≡ 0 → length (report_of (pooled_job a b)) ≤ 2048
