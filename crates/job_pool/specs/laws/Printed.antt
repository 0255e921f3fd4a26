-- Laws of what the program prints: by what the texts are read as, and by what the writer of the report answers.
use Rattle.std.specs.Prelude.{ℕ, ◌≤◌, ◌≡◌, List, Result, Ok, Err, length}
use Rattle.std.proofs.Math.Path.{sym}
use Rattle.std.proofs.Common.{◌∙◌, zero-add}
use Rattle.std.proofs.Math.Nat.{le_trans}
use borrow.Author.Tests.{eq-eqb, ne_eqb}
use Rattle.job.specs.Job.{Job, accepted, job_of}
use Rattle.job.specs.Reading.{reading_of}
use Rattle.job.specs.declared.RefusedLine.{RefusedLine}
use Rattle.job.specs.laws.Reading.{refused-read}
use Rattle.refusal.specs.declared.Refusal.{Refusal}
use Rattle.refusal.specs.Refusal.{number_of}
use Rattle.report.specs.Report.{report_of}
use Rattle.text.specs.Put.{Put}
use Rattle.text.specs.laws.Written.{length-tells, refusal-tells}
use Rattle.job_pool.specs.Pooled.{pooled_job}
use Rattle.job_pool.specs.Printed.{pool_printed, printed_for, refused_job_line}
use Rattle.job_pool.specs.Refusal.{pool_refusal}
use Rattle.job_pool.specs.Writer.{WritesPooled}
use Rattle.job_pool.specs.laws.Refusal.{pool-known}

-- a text that is refused
module _ (first second : List ℕ) where
  pub first-refused : (r : RefusedLine) → reading_of (job_of first) ≡ Err r →
      pool_printed first second ≡ refused_job_line (number_of r.refusal) r.line 1
  unfolding pool_printed printed_for
  first-refused r e = rw (refused-read first r e)

  pub second-refused : (a : Job) → job_of first ≡ accepted a → (r : RefusedLine) → reading_of (job_of second) ≡ Err r →
      pool_printed first second ≡ refused_job_line (number_of r.refusal) r.line 2
  unfolding pool_printed printed_for
  second-refused a p r e = rw (p, refused-read second r e)

-- two texts that are accepted, and a buffer of 2,048 bytes
module _ (first second : List ℕ) (a b : Job) (p : job_of first ≡ accepted a) (q : job_of second ≡ accepted b) where
  module _ (entry exit : List ℕ) (room : 2048 ≤ length entry) (w : Result ℕ Refusal) (h : WritesPooled a b entry exit w) where
    pub whole-printed : (r : ℕ) → w ≡ Ok r → Put (pool_printed first second) 0 entry exit r
    unfolding pool_printed printed_for
    whole-printed r e =
        let text = report_of (pooled_job a b) in
        let told = length-tells (pool_refusal a b) text entry (rw e at h.writes) in
        rw (p, q, eq-eqb (pool_refusal a b) 0 told.0)
        (record {
          leaves = told.2;
          answer = told.1 ∙ sym (zero-add (length text));
          within = rw told.1 (le_trans (h.short told.0) room);
        })

    pub refusal-printed : (k : Refusal) → w ≡ Err k → (exit ≡ entry) × (pool_printed first second ≡ refused_job_line (number_of k) 0 0)
    unfolding pool_printed printed_for
    refusal-printed k e =
        let text = report_of (pooled_job a b) in
        let told = refusal-tells (pool_refusal a b) text entry h.writes (λ z. le_trans (h.short z) room) k e in
        (told.2, rw (p, q, ne_eqb (pool_refusal a b) 0 told.1, told.0, pool-known a b told.1))
