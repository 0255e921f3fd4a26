-- The value is at most 65,536.
use Rattle.std.proofs.Common.{◌≤◌}
use Rattle.test_jobs.proofs.number_at.Given as goal

abbrev pub invariant-loop-at : goal.invariant-loop-at
invariant-loop-at l = l.value ≤ 65_536
