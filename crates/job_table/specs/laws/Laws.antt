-- The shift of a proper job's table.
use Rattle.std.specs.Prelude.{◌<◌}
use Rattle.job.specs.Job.{Job}
use Rattle.job.specs.Values.{Proper}
use Rattle.job.specs.laws.Proper.{readings}
use Rattle.scatter.specs.laws.Bounds.{readings-shift}
use Rattle.job_table.specs.JobTable.{samples_of, table_for}

pub shift-few : (j : Job) → Proper j → (table_for j).e < 62
unfolding table_for samples_of
shift-few j p = readings-shift j.n j.dilutions j.counts (readings j p)
