-- What follows of every call of the writer. It refuses nothing but what is not a proper job.
use mathlib.Core.Path.{◌≡◌, sym, ◌∙◌}
use native.Mathlib.Nat.{mul_comm}
use lib.ListN.{length}
use lib.Seq.{take_at}
use Rattle.job.specs.Job.{Job}
use Rattle.job.specs.Values.{Proper, in_range}
use Rattle.readings.specs.Refusal.{job_refusal}
use Rattle.readings.specs.laws.Refusal.{job-not-refused, job-taken}
use Rattle.text.specs.laws.Written.{length-tells, room-tells}
use Rattle.job_text.specs.JobText.{job_text_of, job_with}
use Rattle.job_text.specs.Writer.{ReadIsWritten, WrittenIsRead, WrittenIsShort}
use Rattle.job_text.proofs.Reading.{reads-back}
use Rattle.job_text.proofs.Writing.{read-is-proper, writes-back}
use Rattle.job_text.proofs.Length.{longest-text}

module _ (j : Job) where
  pub taken-proper : job_refusal j.n j.limit j.tolerance j.dilutions j.counts ≡ 0 → Proper j
  unfolding in_range
  taken-proper e =
      let t = job-taken j.n j.dilutions j.counts j.limit j.tolerance e in
      record { ranges = t.ranges; samples = t.number; counted = t.counted ∙ mul_comm j.n (length j.dilutions) }

  pub proper-taken : Proper j → job_refusal j.n j.limit j.tolerance j.dilutions j.counts ≡ 0
  unfolding in_range
  proper-taken p =
      job-not-refused j.n j.dilutions j.counts j.limit j.tolerance
      (record { ranges = p.ranges; counted = p.counted ∙ mul_comm (length j.dilutions) j.n; number = p.samples })

pub written-is-read : WrittenIsRead
written-is-read n limit tolerance dilutions counts entry exit k w =
    let j = job_with n limit tolerance dilutions counts in
    let t = length-tells _ (job_text_of j) entry w in
    rw (t.2, take_at (job_text_of j) _ k (sym t.1)) (reads-back j (taken-proper j t.0))

pub read-is-written : ReadIsWritten
read-is-written text j e entry exit r h w =
    let same = writes-back text j e in
    rw same at (room-tells _ (job_text_of j) entry w (proper-taken j (read-is-proper text j e)) (rw same h))

pub written-is-short : WrittenIsShort
written-is-short n limit tolerance dilutions counts entry exit k w =
    let j = job_with n limit tolerance dilutions counts in
    let t = length-tells _ (job_text_of j) entry w in
    rw t.1 (longest-text.most j (taken-proper j t.0))
