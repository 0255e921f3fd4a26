-- The table of a job's samples.
use Rattle.std.specs.Prelude.{List}
use Rattle.job.specs.Job.{Job}
use Rattle.readings.specs.Samples.{Sample, samples}
use Rattle.scatter.specs.Table.{table_of}
use Rattle.scatter.specs.declared.table.Table.{Table}

unfoldable pub samples_of : Job → List Sample
samples_of j = samples j.n j.dilutions j.counts

unfoldable pub table_for : Job → Table
table_for j = table_of j.n (samples_of j)
