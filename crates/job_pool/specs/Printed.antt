-- What the program `pool` prints for two job texts: the report of both pooled; or `X`, the refusal's number, its line and the job, 1 or 2, of the
-- first text that is refused 1 to 4. A refusal of the two together is of no line and no job, and has 0 for both.
use Rattle.std.specs.Prelude.{ℕ, cond, List, [], ◌∷◌, map, eqb}
use Rattle.job.specs.Job.{Answer, accepted, job_of, refused}
use Rattle.report.specs.Report.{report_of}
use Rattle.text.specs.Decimal.{digits}
use Rattle.text.specs.Line.{line}
use Rattle.job_pool.specs.Pooled.{pooled_job}
use Rattle.job_pool.specs.Refusal.{pool_refusal}

-- 88 is `X`
unfoldable pub refused_job_line : ℕ → ℕ → ℕ → List ℕ
refused_job_line number at job = line ((88 ∷ []) ∷ map digits (number ∷ at ∷ job ∷ []))

-- the first text is judged before the second, and the two together last, since a text that can't be read has no channel number
unfoldable pub printed_for : Answer → Answer → List ℕ
printed_for (refused number at) second = refused_job_line number at 1
printed_for (accepted a) (refused number at) = refused_job_line number at 2
printed_for (accepted a) (accepted b) =
    cond (eqb (pool_refusal a b) 0) (report_of (pooled_job a b)) (refused_job_line (pool_refusal a b) 0 0)

unfoldable pub pool_printed : List ℕ → List ℕ → List ℕ
pool_printed first second = printed_for (job_of first) (job_of second)
