-- The field read from the start is the field read from `at` with the value so far.
use Rattle.std.proofs.Common.{◌≡◌}
use Rattle.job.specs.inner.FieldScan.{digits_at}
use Rattle.job.proofs.field.digits.Given as goal

abbrev pub invariant-loop-at : goal.invariant-loop-at
invariant-loop-at l = digits_at l.text l.from l.start ≡ digits_at l.text l.at l.value
