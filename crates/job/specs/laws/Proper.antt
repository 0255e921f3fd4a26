-- The ranges of a proper job, part by part, and its readings.
use Rattle.std.specs.Prelude.{◌≤◌, ◌≡◌, true, length}
use Rattle.std.proofs.Common.{◌∙◌, mul_comm}
use Rattle.std.proofs.lemmas.Bool.{and_parts}
use Rattle.integer.specs.Within.{within, all_within}
use Rattle.integer.specs.laws.Within.{all-at, is_within}
use Rattle.limits.specs.Limits.{least_dilution, most_dilution, most_count}
use Rattle.readings.specs.Ranges.{Readings, parameters_in_range}
use Rattle.readings.specs.Refusal.{samples_refusal}
use Rattle.readings.specs.laws.Refusal.{samples-not-refused}
use Rattle.job.specs.Job.{Job}
use Rattle.job.specs.Values.{Proper, in_range}

module _ (j : Job) (p : Proper j) where
  pub ranges : (parameters_in_range j.n j.limit j.tolerance ≡ true) × (all_within 1 100 j.dilutions ≡ true)
      × (all_within 0 65535 j.counts ≡ true)
  unfolding in_range
  ranges =
      let b = and_parts _ _ p.ranges in
      let s = and_parts _ _ b.1 in
      (b.0, s.0, s.1)

  parameters : (within 2 8 j.n ≡ true) × (within 1 16 j.limit ≡ true) × (within 0 1048576 j.tolerance ≡ true)
  unfolding parameters_in_range
  parameters =
      let b = and_parts _ _ ranges.0 in
      let d = and_parts _ _ b.0 in
      (d.0, d.1, b.1)

  -- its samples are such as are taken wherever samples are handed over
  pub samples-taken : samples_refusal j.n j.dilutions j.counts ≡ 0
  samples-taken =
      samples-not-refused j.n j.dilutions j.counts
      (record {
        ranges = simp (parameters.0, ranges.1, ranges.2);
        counted = p.counted ∙ mul_comm (length j.dilutions) j.n;
        number = p.samples;
      })

  pub channels : (2 ≤ j.n) × (j.n ≤ 8)
  channels = is_within 2 8 j.n parameters.0

  pub limit-most : j.limit ≤ 16
  limit-most = (is_within 1 16 j.limit parameters.1).1

  pub tolerance-most : j.tolerance ≤ 1048576
  tolerance-most = (is_within 0 1048576 j.tolerance parameters.2).1

  pub number : (2 ≤ length j.dilutions) × (length j.dilutions ≤ 256)
  number = is_within 2 256 (length j.dilutions) p.samples

  pub readings : Readings j.n j.dilutions j.counts
  readings =
      record {
        channels = channels.1;
        number = number.1;
        counted = p.counted ∙ mul_comm (length j.dilutions) j.n;
        dilution = all-at least_dilution most_dilution j.dilutions ranges.1;
        count = all-at 0 most_count j.counts ranges.2;
      }
