-- `print_jobs` is safe and ends: every job ends after it starts, and within the file.
use Rattle.std.proofs.Common.{length, ◌-◌, ◌≤◌}
use Rattle.test_jobs.proofs.print_jobs.Given as goal

abbrev pub invariant-loop-at : goal.invariant-loop-at
invariant-loop-at g l = l.at ≤ length l.jobs

abbrev pub decreases-loop-at : goal.decreases-loop-at
decreases-loop-at g l = length l.jobs - l.at
