-- Laws of the refusals of samples handed over: what is not refused has its values in range, n counts to a sample and 2 to 256 samples; and what has
-- these is not refused.
use Rattle.std.specs.Prelude.{ℕ, ◌*◌, ◌≤◌, ◌≡◌, Bool, true, false, List, length}
use Rattle.std.proofs.Common.{arith}
use Rattle.std.proofs.Math.Dec.{eqb→eq}
use Rattle.std.specs.Float.Ieee.Bits.{is_true}
use borrow.Author.Tests.{eq-eqb}
use Rattle.limits.specs.Unless.{unless}
use Rattle.limits.specs.laws.Unless.{passed}
use Rattle.limits.specs.Limits.{least_channels, least_samples, least_dilution, most_channels, most_count, most_dilution, most_samples}
use Rattle.std.proofs.lemmas.Bool.{and_parts}
use Rattle.integer.specs.Within.{all_within, within}
use Rattle.integer.specs.laws.Within.{all-at, is_within}
use Rattle.readings.specs.Ranges.{Readings, job_within, parameters_in_range, samples_within, values_within}
use Rattle.readings.specs.Refusal.{are_counted, are_so_many, job_refusal, number_refusal, samples_refusal}

-- `ok` is whether every value is in its range.
pub record Taken (ok : Bool) (n : ℕ) (dilutions counts : List ℕ) : Type 0 where
  pub ranges : ok ≡ true
  pub counted : length counts ≡ n * length dilutions
  pub number : are_so_many dilutions ≡ true

module _ (n : ℕ) (dilutions counts : List ℕ) where
  module _ (ranges : Bool) where
    all-passed : unless ranges 2 (number_refusal n dilutions counts) ≡ 0 → Taken ranges n dilutions counts
    unfolding number_refusal
    all-passed e =
        let values = passed ranges 2 (number_refusal n dilutions counts) e (omega arith) in
        let counted = passed (are_counted n dilutions counts) 6 (unless (are_so_many dilutions) 3 0) values.1 (omega arith) in
        let number = passed (are_so_many dilutions) 3 0 counted.1 (omega arith) in
        record { ranges = is_true _ values.0; counted = eqb→eq _ _ counted.0; number = is_true _ number.0 }

    -- 'tried in that order', whatever else is wrong
    first_range : ranges ≡ false → unless ranges 2 (number_refusal n dilutions counts) ≡ 2
    first_range e = rw e

    then-counted : ranges ≡ true → are_counted n dilutions counts ≡ false → unless ranges 2 (number_refusal n dilutions counts) ≡ 6
    unfolding number_refusal
    then-counted e f = rw (e, f)

    then-number : ranges ≡ true → are_counted n dilutions counts ≡ true → are_so_many dilutions ≡ false →
        unless ranges 2 (number_refusal n dilutions counts) ≡ 3
    unfolding number_refusal
    then-number e f g = rw (e, f, g)

    none-refused : Taken ranges n dilutions counts → unless ranges 2 (number_refusal n dilutions counts) ≡ 0
    unfolding number_refusal
    none-refused t = simp (t.ranges, eq-eqb _ _ t.counted, t.number)

  -- of n and samples: values out of range get 2, then counts that aren't n to a sample 6, then too few or too many samples 3
  pub range-first : values_within n dilutions counts ≡ false → samples_refusal n dilutions counts ≡ 2
  unfolding samples_refusal
  range-first = first_range (values_within n dilutions counts)

  pub counted-second : values_within n dilutions counts ≡ true → are_counted n dilutions counts ≡ false → samples_refusal n dilutions counts ≡ 6
  unfolding samples_refusal
  counted-second = then-counted (values_within n dilutions counts)

  pub number-third : values_within n dilutions counts ≡ true → are_counted n dilutions counts ≡ true → are_so_many dilutions ≡ false →
      samples_refusal n dilutions counts ≡ 3
  unfolding samples_refusal
  number-third = then-number (values_within n dilutions counts)

  -- n and samples that are not refused
  module _ (e : samples_refusal n dilutions counts ≡ 0) where
    pub samples-taken : Taken (values_within n dilutions counts) n dilutions counts
    unfolding samples_refusal
    samples-taken = all-passed (values_within n dilutions counts) e

    values : (within least_channels most_channels n ≡ true) × (samples_within dilutions counts ≡ true)
    values = and_parts (within least_channels most_channels n) (samples_within dilutions counts) samples-taken.ranges

    pub two-channels : least_channels ≤ n
    two-channels = (is_within least_channels most_channels n values.0).0

    pub two-samples : least_samples ≤ length dilutions
    two-samples = (is_within least_samples most_samples (length dilutions) samples-taken.number).0

    pub are-readings : Readings n dilutions counts
    are-readings =
        let in-range = and_parts (all_within least_dilution most_dilution dilutions) (all_within 0 most_count counts) values.1 in
        record {
          channels = (is_within least_channels most_channels n values.0).1;
          number = (is_within least_samples most_samples (length dilutions) samples-taken.number).1;
          counted = samples-taken.counted;
          dilution = all-at least_dilution most_dilution dilutions in-range.0;
          count = all-at 0 most_count counts in-range.1;
        }

  pub samples-not-refused : Taken (values_within n dilutions counts) n dilutions counts → samples_refusal n dilutions counts ≡ 0
  unfolding samples_refusal
  samples-not-refused = none-refused (values_within n dilutions counts)

  -- a job: the same tests in the same order, with the ranges of its limit and tolerance among the first
  module _ (limit tolerance : ℕ) where
    pub job-range-first : job_within n limit tolerance dilutions counts ≡ false → job_refusal n limit tolerance dilutions counts ≡ 2
    unfolding job_refusal
    job-range-first = first_range (job_within n limit tolerance dilutions counts)

    pub job-counted-second : job_within n limit tolerance dilutions counts ≡ true → are_counted n dilutions counts ≡ false →
        job_refusal n limit tolerance dilutions counts ≡ 6
    unfolding job_refusal
    job-counted-second = then-counted (job_within n limit tolerance dilutions counts)

    pub job-number-third : job_within n limit tolerance dilutions counts ≡ true → are_counted n dilutions counts ≡ true →
        are_so_many dilutions ≡ false →
        job_refusal n limit tolerance dilutions counts ≡ 3
    unfolding job_refusal
    job-number-third = then-number (job_within n limit tolerance dilutions counts)

    -- with limit and tolerance in their ranges a job is refused as its samples are
    pub job-as-samples : parameters_in_range n limit tolerance ≡ true → within least_channels most_channels n ≡ true →
        job_refusal n limit tolerance dilutions counts ≡ samples_refusal n dilutions counts
    unfolding job_refusal samples_refusal
    job-as-samples e f = rw (e, f)

    -- one that is not refused
    pub job-taken : job_refusal n limit tolerance dilutions counts ≡ 0 → Taken (job_within n limit tolerance dilutions counts) n dilutions counts
    unfolding job_refusal
    job-taken = all-passed (job_within n limit tolerance dilutions counts)

    pub job-not-refused : Taken (job_within n limit tolerance dilutions counts) n dilutions counts →
        job_refusal n limit tolerance dilutions counts ≡ 0
    unfolding job_refusal
    job-not-refused = none-refused (job_within n limit tolerance dilutions counts)
