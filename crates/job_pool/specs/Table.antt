-- Document 02, W6: the table of two jobs, made 'by adding their sample numbers, channel sums and cross sums'; and what it is. `proofs/Pooled` has the
-- proof.
use Rattle.std.specs.Prelude.{◌≡◌}
use Rattle.job.specs.Job.{Job}
use Rattle.job_table.specs.JobTable.{samples_of, table_for}
use Rattle.scatter.specs.BySums.{scatter_by_sums}
use Rattle.scatter.specs.Table.{table_from}
use Rattle.scatter.specs.declared.table.Table.{Table}
use Rattle.sums.specs.Combined.{plus_of}
use Rattle.sums.specs.Sums.{sums_of}
use Rattle.sums.specs.declared.Sums.{Sums}
use Rattle.job_pool.specs.Pooled.{pooled_job}
use Rattle.job_pool.specs.Refusal.{pool_refusal}

unfoldable pub pooled_sums : Job → Job → Sums
pooled_sums a b = plus_of (sums_of (samples_of a)) (sums_of (samples_of b))

unfoldable pub pooled_table : Job → Job → Table
pooled_table a b = table_from (scatter_by_sums a.n (pooled_sums a b))

-- 'The pooled table .. [is that] of a job with the first one's S lines followed by the second one's'
abbrev pub TableIsPooled : Type 0
TableIsPooled = (a b : Job) → pool_refusal a b ≡ 0 → pooled_table a b ≡ table_for (pooled_job a b)
