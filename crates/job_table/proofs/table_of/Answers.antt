-- `job_table::table_of` meets its contract: the readings of a job are within their ranges.
use Rattle.job.specs.laws.Proper.{readings}
use Rattle.job_table.specs.JobTable.{samples_of, table_for}
use Rattle.job_table.proofs.table_of.Goals as goal

pub table_of_readings-requires : goal.table_of_readings-requires
table_of_readings-requires c =
    let lent = c.samples.ensures.lends in
    rw (lent.0, lent.1, lent.2) (readings _ c.samples.ensures.proper)

pub returns : goal.returns
unfolding samples_of table_for
returns c =
    let lent = c.samples.ensures.lends in
    rw (← lent.0, ← lent.1, ← lent.2) c.table_of_readings.ensures
