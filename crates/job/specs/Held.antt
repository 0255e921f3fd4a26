-- A job in arrays: the job that they hold, and a job as the reader leaves it in them.
use Rattle.std.specs.Prelude.{◌*◌, ◌≤◌, length, take}
use Rattle.integer.specs.Padded.{padded}
use Rattle.job.specs.Job.{Job}
use Rattle.job.specs.JobArrays.{JobArrays}
use Rattle.job.specs.Values.{Proper}
use Rattle.limits.specs.Limits.{most_channels, most_samples}

-- The first k dilutions and the first k × n counts
unfoldable pub job_in : JobArrays → Job
job_in a =
    record { n = a.n; limit = a.limit; tolerance = a.tolerance; dilutions = take a.k a.dilutions; counts = take (a.k * a.n) a.counts }

-- past the last dilution and the last count the reader leaves 0
unfoldable pub in_arrays : Job → JobArrays
in_arrays j =
    record {
      n = j.n;
      limit = j.limit;
      tolerance = j.tolerance;
      k = length j.dilutions;
      dilutions = padded most_samples 0 j.dilutions;
      counts = padded (most_samples * most_channels) 0 j.counts;
    }

-- The values are in their ranges, as many as there shall be, and all of them in the arrays.
pub record Held (a : JobArrays) : Type 0 where
  pub proper : Proper (job_in a)
  pub dilutions : a.k ≤ length a.dilutions
  pub counts : a.k * a.n ≤ length a.counts
