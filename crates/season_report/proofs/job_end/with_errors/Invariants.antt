-- The errors of the axes so far are in the largest.
use Rattle.std.proofs.Common.{◌≡◌, ◌+◌, ◌-◌, ◌≤◌}
use Rattle.season_report.specs.Season.{larger}
use Rattle.season_report.proofs.Added.{errors_to}
use Rattle.season_report.proofs.job_end.with_errors.Given as goal

abbrev pub invariant-loop-i : goal.invariant-loop-i
invariant-loop-i l = (l.i ≤ l.i-end + 1) × (l.largest ≡ larger l.fn.largest l.job (errors_to l.r (l.i - 1)))
