-- What the lines of a text come to, in arrays, is what the text's reader tells.
use Rattle.std.proofs.Common.{◌≡◌, ℕ, List, Ok, Err, refl, sym, ap, ◌∙◌, arith}
use Rattle.job.proofs.Accepted.{accepted-proper}
use Rattle.job.proofs.Same.{read_same}
use Rattle.job.specs.Held.{in_arrays}
use Rattle.job.specs.Job.{Answer, accepted, job_of, refused}
use Rattle.job.specs.JobArrays.{JobArrays}
use Rattle.job.specs.Reading.{Read, reading_of}
use Rattle.job.specs.declared.first.Parameters.{Parameters}
use Rattle.refusal.specs.declared.Refusal.{Refusal}
use Rattle.job.specs.inner.LineScan.{parameters_at}
use Rattle.job.specs.inner.Scan.{new_job, samples_at}
use Rattle.job.specs.laws.Held.{held, held_in}
use Rattle.job.specs.laws.Scan.{reading_at, reading_by}

module _ (text : List ℕ) where
  -- what the lines after the first come to
  pub begun : (first : Parameters) → Ok first ≡ parameters_at text →
      reading_of (job_of text) ≡ samples_at 257 text first.next (new_job first.n first.limit first.tolerance)
  unfolding reading_at reading_by
  begun first e = sym (read_same text) ∙ rw (← e) refl

  -- a job: its arrays hold the text's
  pub accepted-read : (a : JobArrays) → reading_of (job_of text) ≡ Ok a → Read text a
  unfolding reading_of
  accepted-read a = by (job_of text) refl
    where
      by : (answer : Answer) → job_of text ≡ answer → reading_of answer ≡ Ok a → Read text a
      by (refused number line) q e = let z : ◌≡◌ {A = ℕ} 0 1 = cc in absurd (omega arith)
      by (accepted j) q e =
          let p = accepted-proper text j q in
          let same : in_arrays j ≡ a = cc in
          rw (← same) (record { held = held j p; is = rw q (ap accepted (sym (held_in j p))) })

  -- a first line that is refused
  pub unbegun : (refusal : Refusal) → Err refusal ≡ parameters_at text → Err (record { refusal = refusal; line = 1 }) ≡ reading_of (job_of text)
  unfolding reading_at reading_by
  unbegun refusal e = sym (sym (read_same text) ∙ rw (← e) refl)
