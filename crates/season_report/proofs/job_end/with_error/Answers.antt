-- `season_report::job_end::with_error` meets its contract.
use Rattle.std.proofs.Common.{le-ltb, lt-ltb}
use Rattle.season_report.specs.Season.{overtakes}
use Rattle.season_report.proofs.job_end.with_error.Goals as goal

pub returns-in-Some : goal.returns-in-Some
unfolding overtakes
returns-in-Some c = rw (c.in-Some.is, le-ltb _ _ c.if-found-so_far.true)

pub returns-in_default : goal.returns-in_default
unfolding overtakes
returns-in_default c = rw (c.in-Some.is, lt-ltb _ _ c.if-found-so_far.false)

pub returns-in_default-2 : goal.returns-in_default-2
unfolding overtakes
returns-in_default-2 c = rw c.in_default.is
