-- The pooled job of two jobs that are not refused is proper, its text is the joined one, and its table that of the sums added.
use Prim.Native.Nat.{◌+◌, ◌*◌}
use mathlib.Core.Path.{◌≡◌, sym, ap, ◌∙◌}
use mathlib.Core.Bool.{true}
use mathlib.Core.List.{◌++◌}
use native.Mathlib.Nat.{add-mul, mul_comm}
use native.Mathlib.Omega.{arith}
use borrow.Author.Tests.{le-leb}
use lib.ListN.{length, length-append}
use Rattle.integer.specs.Within.{within}
use Rattle.integer.specs.laws.Within.{all_append}
use Rattle.job.specs.Job.{Job}
use Rattle.job.specs.Values.{Proper, in_range}
use Rattle.job.specs.laws.Proper.{channels, number, ranges, readings}
use Rattle.job_table.specs.JobTable.{samples_of, table_for}
use Rattle.job_text.specs.JobText.{job_line_e, job_line_p, job_text_of}
use Rattle.job_text.proofs.Writer.{taken-proper}
use Rattle.limits.specs.Limits.{least_dilution, least_samples, most_count, most_dilution, most_samples}
use Rattle.readings.specs.Samples.{samples}
use Rattle.readings.specs.laws.Joined.{samples-append}
use Rattle.scatter.specs.BySums.{scatter_by_sums}
use Rattle.scatter.specs.Table.{table_from}
use Rattle.scatter.specs.laws.BySums.{table-by-sums}
use Rattle.sums.specs.Combined.{plus_of}
use Rattle.sums.specs.Sums.{sums_of}
use Rattle.sums.specs.laws.Combined.{sums-plus}
use Rattle.job_pool.specs.Pooled.{joined_text, lines_s, pooled_job}
use Rattle.job_pool.specs.Refusal.{pool_refusal}
use Rattle.job_pool.specs.Table.{TableIsPooled, pooled_sums, pooled_table}
use Rattle.job_pool.specs.inner.Readings.{BothReadings}
use Rattle.job_pool.specs.laws.Joined.{sample-lines-append}
use Rattle.job_pool.specs.laws.Refusal.{Poolable, taken-poolable}

module _ (a b : Job) (e : pool_refusal a b ≡ 0) where
  poolable : Poolable a b
  poolable = taken-poolable a b e

  pub first-proper : Proper a
  first-proper = taken-proper a poolable.first

  pub second-proper : Proper b
  second-proper = taken-proper b poolable.second

  pub together : length (a.dilutions ++ b.dilutions) ≡ length a.dilutions + length b.dilutions
  together = length-append a.dilutions b.dilutions

  so-many : within least_samples most_samples (length (a.dilutions ++ b.dilutions)) ≡ true
  unfolding within
  so-many =
      rw (
        together,
        le-leb least_samples (length a.dilutions + length b.dilutions) (omega (arith, number a first-proper)),
        le-leb (length a.dilutions + length b.dilutions) most_samples poolable.together,
      )

  pub pooled-proper : Proper (pooled_job a b)
  unfolding in_range
  pooled-proper =
      let p = ranges a first-proper in
      let q = ranges b second-proper in
      record {
        ranges =
            simp (
              p.0,
              all_append least_dilution most_dilution a.dilutions b.dilutions p.1 q.1,
              all_append 0 most_count a.counts b.counts p.2 q.2,
            );
        samples = so-many;
        counted =
            rw (together, length-append, first-proper.counted, second-proper.counted, ← poolable.channels)
            (sym (add-mul (length a.dilutions) (length b.dilutions) a.n));
      }

  pub both-readings : BothReadings a.n a.dilutions a.counts b.n b.dilutions b.counts
  both-readings = record { first = readings a first-proper; second = readings b second-proper; together = poolable.together }

  -- n counts to a sample of the first
  pub first_counted : length a.counts ≡ a.n * length a.dilutions
  first_counted = first-proper.counted ∙ mul_comm (length a.dilutions) a.n

  pub joined : job_text_of (pooled_job a b) ≡ joined_text a b
  unfolding job_text_of joined_text job_line_p
  joined =
      ap (λ text. job_line_p a ++ text ++ job_line_e (pooled_job a b))
      (sample-lines-append a.n a.dilutions a.counts first_counted b.dilutions b.counts
      ∙ ap (λ n. lines_s a ++ lines_s (record { n = n; limit = b.limit; tolerance = b.tolerance; dilutions = b.dilutions; counts = b.counts }))
      poolable.channels)

  -- sums added are the sums of both jobs' samples, and so the table is theirs
  pub sums-table : table_from (scatter_by_sums a.n (plus_of (sums_of (samples a.n a.dilutions a.counts))
      (sums_of (samples b.n b.dilutions b.counts)))) ≡ table_for (pooled_job a b)
  unfolding table_for samples_of
  sums-table =
      let both = samples a.n (a.dilutions ++ b.dilutions) (a.counts ++ b.counts) in
      ap (λ t. table_from (scatter_by_sums a.n t))
      (ap (λ n. plus_of (sums_of (samples a.n a.dilutions a.counts)) (sums_of (samples n b.dilutions b.counts))) (sym poolable.channels)
      ∙ sums-plus (samples a.n a.dilutions a.counts) (samples a.n b.dilutions b.counts)
      ∙ ap sums_of (sym (samples-append a.n a.dilutions a.counts first_counted b.dilutions b.counts)))
      ∙ table-by-sums both a.n (channels a first-proper).1

pub table-is-pooled : TableIsPooled
unfolding pooled_table pooled_sums samples_of
table-is-pooled a b e = sums-table a b e
