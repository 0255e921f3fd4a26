-- `table::check_table` meets its contract: the refusal of the samples, then that of the buffer.
use Rattle.std.proofs.Common.{◌≡◌, sym, ◌∙◌, ◌*◌, ◌≤◌, arith}
use Rattle.std.proofs.lemmas.Result.{err_from_is_err_and}
use Rattle.limits.specs.laws.Channels.{places}
use Rattle.readings.specs.Refusal.{samples_refusal}
use Rattle.readings.specs.laws.Refusal.{are-readings}
use Rattle.refusal.specs.laws.Judged.{judged-numbered, judged-taken}
use Rattle.text.specs.Written.{or_short}
use Rattle.text.specs.laws.Written.{none_left, not-judged, short-last}
use Rattle.field_axes.specs.Table.{table_refusal}
use Rattle.field_axes.proofs.Answered.{first-refused}
use Rattle.field_axes.proofs.table.check_table.Goals as goal
use Rattle.field_axes.proofs.table.check_table.Goals.{In_ok-check}

pub returns-in_err-check : goal.returns-in_err-check
unfolding table_refusal or_short
returns-in_err-check c =
    let p = err_from_is_err_and c.from_residual.result c.from_residual.ensures.1 in
    rw (p.1, p.2) (first-refused _ _ _ _ _ (sym c.in_err-check.was ∙ c.check.ensures))

-- samples that are not refused: the numbers of their table are few
module _ (c : In_ok-check) where
  taken : samples_refusal c.args.samples.now.n c.args.samples.now.dilutions.now c.args.samples.now.counts.now ≡ 0
  taken = not-judged _ _ _ (sym c.check.ensures ∙ c.in_ok-check.was)

  few : c.args.samples.now.n * c.args.samples.now.n ≤ 64
  few = places _ (are-readings _ _ _ taken).channels

pub overflow_mul-samples : goal.overflow_mul-samples
overflow_mul-samples c = record { fits = omega (arith, few (goal.at.overflow_mul-samples c).In_ok-check) }

pub overflow_mul-samples-2 : goal.overflow_mul-samples-2
overflow_mul-samples-2 c = record { fits = omega (arith, few (goal.at.overflow_mul-samples-2 c).In_ok-check) }

pub overflow_add-samples : goal.overflow_add-samples
overflow_add-samples c = record { fits = omega (arith, few (goal.at.overflow_add-samples c).In_ok-check) }

pub returns-then-size-samples : goal.returns-then-size-samples
unfolding table_refusal
returns-then-size-samples c =
    let t = taken (goal.at.returns-then-size-samples c).In_ok-check in
    judged-numbered _ _ 12 (sym (short-last _ _ _ t c.if-size-samples.true)) (λ z. omega arith)

pub returns : goal.returns
unfolding table_refusal
returns c = judged-taken _ _ (none_left _ _ _ (taken (goal.at.returns c).In_ok-check) c.if-size-samples.false)
