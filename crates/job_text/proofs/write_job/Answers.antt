-- `job_text::write_job` meets its contract: the refusal, or the text of the job, written where it fits.
use Rattle.std.proofs.Common.{◌≡◌, [], ◌∷◌, ◌∙◌, sym, ap, arith, length, w64, to_z}
use mir.Facts.{to_z_pos}
use Rattle.std.proofs.lemmas.Result.{err_from_is_err_and}
use Rattle.job.specs.Job.{Job}
use Rattle.job.specs.Values.{Proper}
use Rattle.job.specs.laws.Proper.{channels, limit-most, number, readings, tolerance-most}
use Rattle.readings.specs.Refusal.{job_refusal}
use Rattle.text.specs.laws.Put.{same-put}
use Rattle.text.specs.laws.Written.{not-judged, not_taken, short, written}
use Rattle.job_text.specs.JobText.{job_line_e, job_line_p, job_text_of, job_with}
use Rattle.job_text.specs.inner.Lines.{text_of_lines}
use Rattle.job_text.proofs.Writer.{taken-proper}
use Rattle.job_text.proofs.write_job.Goals as goal
use Rattle.job_text.proofs.write_job.Goals.{In_ok-check_job}

-- What is not refused.
module _ (j : Job) (p : Proper j) where
  -- The numbers of the first and the last line are the job's.
  text : text_of_lines (to_z w64 j.n ∷ to_z w64 j.limit ∷ to_z w64 j.tolerance ∷ []) j.n j.dilutions j.counts (to_z w64 (length j.dilutions) ∷ [])
      ≡ job_text_of j
  unfolding text_of_lines job_text_of job_line_p job_line_e
  text = rw (
    to_z_pos w64 {n = j.n} (omega (arith, (channels j p).1)),
    to_z_pos w64 {n = j.limit} (omega (arith, limit-most j p)),
    to_z_pos w64 {n = j.tolerance} (omega (arith, tolerance-most j p)),
    to_z_pos w64 {n = length j.dilutions} (omega (arith, (number j p).1)),
  )

-- What the test of the values tells, where it lets them pass.
module _ (c : In_ok-check_job) where
  abbrev job : Job
  job = job_with c.args.samples.now.n c.args.limit c.args.tolerance c.args.samples.now.dilutions.now c.args.samples.now.counts.now

  taken : job_refusal job.n job.limit job.tolerance job.dilutions job.counts ≡ 0
  taken = not-judged _ _ _ (sym c.check_job.ensures ∙ c.in_ok-check_job.was)

  proper : Proper job
  proper = taken-proper job taken

pub returns-in_err-check_job : goal.returns-in_err-check_job
returns-in_err-check_job c =
    let p = err_from_is_err_and c.from_residual.result c.from_residual.ensures.1 in
    rw (p.1, p.2) (not_taken _ _ _ _ _ (sym c.check_job.ensures ∙ c.in_err-check_job.was))

pub overflow_cast-first : goal.overflow_cast-first
overflow_cast-first c =
    let t = (goal.at.overflow_cast-first c).In_ok-check_job in record { sfits = omega (arith, (channels (job t) (proper t)).1) }

pub overflow_cast-first-2 : goal.overflow_cast-first-2
overflow_cast-first-2 c =
    let t = (goal.at.overflow_cast-first-2 c).In_ok-check_job in record { sfits = omega (arith, limit-most (job t) (proper t)) }

pub overflow_cast-first-3 : goal.overflow_cast-first-3
overflow_cast-first-3 c =
    let t = (goal.at.overflow_cast-first-3 c).In_ok-check_job in record { sfits = omega (arith, tolerance-most (job t) (proper t)) }

pub invariant_of-lines : goal.invariant_of-lines
invariant_of-lines c = let t = (goal.at.invariant_of-lines c).In_ok-check_job in record { readings = readings (job t) (proper t) }

pub returns-then-out-length : goal.returns-then-out-length
returns-then-out-length c =
    let t = (goal.at.returns-then-out-length c).In_ok-check_job in
    short _ _ _ (taken t)
    (omega (arith, c.text_length-length.ensures.exact ∙ ap length (text (job t) (proper t)), c.if-out-length.true))

pub put_text-requires : goal.put_text-requires
put_text-requires c = omega (arith, c.text_length-length.ensures.exact, c.if-out-length.false)

pub returns : goal.returns
returns c =
    let t = (goal.at.returns c).In_ok-check_job in
    written _ _ _ (taken t) (same-put (text (job t) (proper t)) c.put_text.ensures)
