-- A text's refusal, by what the reader gives.
use Rattle.std.proofs.Common.{◌≡◌, ℕ, List, Ok, Err, arith}
use Rattle.job.specs.Job.{Answer, accepted, job_of, refused}
use Rattle.job.specs.Reading.{reading_of}
use Rattle.job.specs.declared.RefusedLine.{RefusedLine}
use Rattle.job.specs.laws.Refusals.{Known, known}
use Rattle.refusal.specs.Refusal.{number_of, numbered}

module _ (text : List ℕ) where
  pub refused-read : (r : RefusedLine) → reading_of (job_of text) ≡ Err r → job_of text ≡ refused (number_of r.refusal) r.line
  unfolding reading_of
  refused-read r = by (job_of text) (known text)
    where
      by : (answer : Answer) → Known answer → reading_of answer ≡ Err r → answer ≡ refused (number_of r.refusal) r.line
      by (refused number line) k e =
          let same : r ≡ record { refusal = numbered number; line = line } = cc in
          rw (same, k.is)
      by (accepted j) k e = let z : ◌≡◌ {A = ℕ} 0 1 = cc in absurd (omega arith)
