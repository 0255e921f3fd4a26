-- The report of two jobs pooled, and the refusals before it.
use Rattle.std.specs.Prelude.{ℕ, List, length}
use Rattle.job.specs.Job.{Job}
use Rattle.job_pool.specs.Pooled.{pooled_job}
use Rattle.job_pool.specs.Refusal.{pool_refusal}
use Rattle.report.specs.Report.{report_of}
use Rattle.text.specs.Written.{or_short}

abbrev pub pooled_report : Job → Job → List ℕ
pooled_report a b = report_of (pooled_job a b)

-- 13, 2, 6 and 3, then 12 for a buffer of fewer bytes
abbrev pub pooled_refusal : Job → Job → ℕ → ℕ
pooled_refusal a b size = or_short (pool_refusal a b) (length (pooled_report a b)) size
