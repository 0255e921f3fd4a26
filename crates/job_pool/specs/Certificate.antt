-- What pooled bytes mean: they are what `axes` prints for the joined text, so its certificate is theirs. 'So pooled axes carry the certified error.'
-- `proofs/Certificate` has the proofs.
use Rattle.std.specs.Prelude.{ℕ, ◌≡◌, List, Ok, take}
use Rattle.job.specs.Job.{Job, accepted, job_of}
use Rattle.job.specs.Reply.{printed_of}
use Rattle.job_text.specs.JobText.{job_text_of}
use Rattle.report.specs.Certificate.{JobCertificate}
use Rattle.report.specs.Report.{report_of}
use Rattle.job_pool.specs.Pooled.{joined_text, pooled_job}
use Rattle.job_pool.specs.Printed.{pool_printed}
use Rattle.job_pool.specs.Refusal.{pool_refusal}
use Rattle.job_pool.specs.Writer.{WritesPooled}

pub record PoolCertificate (a b : Job) (bytes : List ℕ) : Type 0 where
  -- the joined text is what W1's writer writes for the pooled job, and is read as that job
  pub written : job_text_of (pooled_job a b) ≡ joined_text a b
  pub read : job_of (joined_text a b) ≡ accepted (pooled_job a b)
  -- 'The pooled .. report [is that] of a job with the first one's S lines followed by the second one's'
  pub printed : bytes ≡ printed_of report_of (joined_text a b)
  pub certified : JobCertificate (joined_text a b) (pooled_job a b)

-- whatever was handed over, where the answer is a length: the bytes of the lent buffer
abbrev pub WrittenIsCertified : Type 0
WrittenIsCertified = (a b : Job) (entry exit : List ℕ) (k : ℕ) → WritesPooled a b entry exit (Ok k) → PoolCertificate a b (take k exit)

-- two texts that are accepted, and can be pooled: each is the text of its job, so its S lines are those that are joined; and the bytes that the
-- program prints
abbrev pub PrintedIsCertified : Type 0
PrintedIsCertified = (first second : List ℕ) (a b : Job) → job_of first ≡ accepted a → job_of second ≡ accepted b → pool_refusal a b ≡ 0
    → (job_text_of a ≡ first) × (job_text_of b ≡ second) × PoolCertificate a b (pool_printed first second)
