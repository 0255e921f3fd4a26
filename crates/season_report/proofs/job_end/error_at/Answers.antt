-- `season_report::job_end::error_at` meets its contract: the error that the axis call answers.
use Rattle.std.proofs.Common.{ap}
use Rattle.report.specs.AxisNumbers.{axis_values}
use Rattle.season_report.specs.Job.{error_in}
use Rattle.season_report.proofs.job_end.error_at.Goals as goal

pub returns : goal.returns
unfolding error_in axis_values
returns c = ap error_in c.own_axis.ensures.0
