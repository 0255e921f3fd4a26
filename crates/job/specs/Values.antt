-- The values of a job: their ranges, and how many there are of each.
use Rattle.std.specs.Prelude.{◌*◌, ◌≡◌, Bool, true, length}
use Rattle.integer.specs.Within.{within}
use Rattle.readings.specs.Ranges.{job_within}
use Rattle.job.specs.Job.{Job}
use Rattle.limits.specs.Limits.{least_samples, most_samples}

unfoldable pub in_range : Job → Bool
in_range j = job_within j.n j.limit j.tolerance j.dilutions j.counts

-- Every value is in its range, there are 2 to 256 samples, and n counts to each.
pub record Proper (j : Job) : Type 0 where
  pub ranges : in_range j ≡ true
  pub samples : within least_samples most_samples (length j.dilutions) ≡ true
  pub counted : length j.counts ≡ length j.dilutions * j.n
