-- The certificate of pooled bytes is proved: the joined text is read as the pooled job, and `axes`' certificate speaks of every accepted text.
use mathlib.Core.Path.{◌≡◌, sym, ap, ◌∙◌}
use lib.Seq.{take_at}
use borrow.Author.Tests.{eq-eqb}
use Rattle.job.specs.Job.{Job, accepted, job_of}
use Rattle.job.specs.Reply.{printed_by, printed_of}
use Rattle.job_text.proofs.Reading.{reads-back}
use Rattle.job_text.proofs.Writing.{writes-back}
use Rattle.report.specs.Report.{report_of}
use Rattle.report.proofs.Certificate.{certificate}
use Rattle.text.specs.laws.Written.{length-tells}
use Rattle.job_pool.specs.Certificate.{PoolCertificate, PrintedIsCertified, WrittenIsCertified}
use Rattle.job_pool.specs.Pooled.{joined_text, pooled_job}
use Rattle.job_pool.specs.Printed.{pool_printed, printed_for}
use Rattle.job_pool.specs.Refusal.{pool_refusal}
use Rattle.job_pool.proofs.Pooled.{joined, pooled-proper}

module _ (a b : Job) (e : pool_refusal a b ≡ 0) where
  is_read : job_of (joined_text a b) ≡ accepted (pooled_job a b)
  is_read = ap job_of (sym (joined a b e)) ∙ reads-back (pooled_job a b) (pooled-proper a b e)

  -- the pooled report is the joined text's
  pub pooled-certificate : PoolCertificate a b (report_of (pooled_job a b))
  unfolding printed_of printed_by
  pooled-certificate =
      record {
        written = joined a b e;
        read = is_read;
        printed = sym (ap (printed_by report_of) is_read);
        certified = certificate (joined_text a b) (pooled_job a b) is_read;
      }

pub written-is-certified : WrittenIsCertified
written-is-certified a b entry exit k w =
    let t = length-tells (pool_refusal a b) (report_of (pooled_job a b)) entry w.writes in
    rw (t.2, take_at (report_of (pooled_job a b)) _ k (sym t.1)) (pooled-certificate a b t.0)

pub printed-is-certified : PrintedIsCertified
unfolding pool_printed printed_for
printed-is-certified first second a b p q e =
    (writes-back first a p, writes-back second b q, rw (p, q, eq-eqb (pool_refusal a b) 0 e) (pooled-certificate a b e))
