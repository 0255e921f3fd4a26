-- A proper job in arrays: they hold it; how many samples and channels it has.
use Rattle.std.proofs.Common.{◌≡◌, ◌≤◌, ◌*◌, length, mul-le-mul}
use Rattle.std.proofs.lemmas.List.{length-take-le}
use Rattle.integer.specs.laws.Padded.{padded-size, padded-take}
use Rattle.job.specs.Held.{Held, in_arrays, job_in}
use Rattle.job.specs.Job.{Job}
use Rattle.job.specs.Values.{Proper}
use Rattle.job.specs.JobArrays.{JobArrays}
use Rattle.job.specs.laws.Proper.{channels, number}
use Rattle.limits.specs.Limits.{most_samples}

module _ (j : Job) (p : Proper j) where
  pub held_in : job_in (in_arrays j) ≡ j
  unfolding job_in in_arrays
  held_in = simp (padded-take, ← p.counted)

  pub held : Held (in_arrays j)
  unfolding in_arrays
  held =
      record {
        proper = rw held_in p;
        dilutions = padded-size 256 0 j.dilutions;
        counts = rw (← p.counted) (padded-size 2048 0 j.counts);
      }

module _ (a : JobArrays) (h : Held a) where
  -- As many samples as the arrays say
  pub samples-held : length (job_in a).dilutions ≡ a.k
  unfolding job_in
  samples-held = length-take-le a.k a.dilutions h.dilutions

  pub channels-held : a.n ≤ 8
  unfolding job_in
  channels-held = (channels (job_in a) h.proper).1

  pub samples-few : a.k ≤ most_samples
  samples-few = rw samples-held at (number (job_in a) h.proper).1

  pub counts-few : a.k * a.n ≤ 2048
  counts-few = mul-le-mul samples-few channels-held
