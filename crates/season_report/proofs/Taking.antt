-- A text that is taken: beyond the limit, refused, or accepted.
use Rattle.std.proofs.Common.{◌≡◌, ℕ, ◌<◌, ◌≤◌, List, Ok, Err}
use borrow.Author.Tests.{le-ltb, lt-ltb}
use Rattle.job.proofs.Told.{accepted-read}
use Rattle.job.specs.Held.{job_in}
use Rattle.job.specs.Job.{job_of}
use Rattle.job.specs.JobArrays.{JobArrays}
use Rattle.job.specs.Reading.{reading_of}
use Rattle.job.specs.declared.RefusedLine.{RefusedLine}
use Rattle.job.specs.laws.Reading.{refused-read}
use Rattle.limits.specs.Limits.{most_jobs}
use Rattle.record.specs.Run.{Run}
use Rattle.refusal.specs.Refusal.{number_of}
use Rattle.refusal.specs.laws.Numbers.{numbered-number_of}
use Rattle.report.specs.Report.{run_for}
use Rattle.season_report.specs.Done.{Takes}
use Rattle.season_report.specs.Job.{JobEnd, end_by, end_of, ran, refused_under}
use Rattle.season_report.specs.Season.{added, text_answer, season_after_under, taken_as_under, too_many}
use Rattle.season_report.specs.declared.Season.{Season}
use Rattle.season_report.specs.declared.Taken.{Taken}

module _ (s : Season) (text : List ℕ) where
  pub taken-full : most_jobs ≤ s.jobs → Takes s text (record { answer = too_many; next = s })
  unfolding taken_as_under season_after_under
  taken-full h = record { answer = rw (le-ltb s.jobs most_jobs h); next = rw (le-ltb s.jobs most_jobs h) }

  pub taken-job : (z : Taken) (e : JobEnd) → s.jobs < most_jobs → z.answer ≡ text_answer (job_of text) → end_of text ≡ e →
      z.next ≡ added s e → Takes s text z
  unfolding taken_as_under season_after_under
  taken-job z e h a q n =
      let t = lt-ltb s.jobs most_jobs h in
      record { answer = rw t a; next = rw (t, q) n }

module _ (text : List ℕ) where
  -- a text that is refused when it is read: the answer is that refusal, and the job ends by it
  module _ (r : RefusedLine) (e : reading_of (job_of text) ≡ Err r) where
    pub refused-answer : Err r ≡ text_answer (job_of text)
    unfolding text_answer
    refused-answer = rw (refused-read text r e, numbered-number_of)

    pub refused-end : end_of text ≡ refused_under (number_of r.refusal)
    unfolding end_of end_by
    refused-end = rw (refused-read text r e)

  -- a text that is accepted: its run is that of the job that was read
  module _ (a : JobArrays) (e : reading_of (job_of text) ≡ Ok a) where
    pub accepted-answer : Ok (record {}) ≡ text_answer (job_of text)
    unfolding text_answer
    accepted-answer = rw (accepted-read text a e).is

    pub ran-end : (z : Run) → z ≡ run_for (job_in a) → end_of text ≡ ran z
    unfolding end_of end_by
    ran-end z is = rw ((accepted-read text a e).is, is)
