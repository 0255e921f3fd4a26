-- The numbers of a sample of a proper job: as many as its line has, in their ranges, and of at most 7 digits.
use Prim.Native.Nat.{ℕ, zero, suc, ◌*◌, ◌<◌, ◌≤◌}
use mathlib.Core.Path.{◌≡◌, ap}
use mathlib.Core.Bool.{true}
use mathlib.Core.List.{List}
use native.Mathlib.Nat.{mul-le-mul_left, mul_comm}
use native.Mathlib.Omega.{arith}
use lib.ListN.{length, take, drop, length-drop}
use lib.Seq.{length-take-le}
use Rattle.integer.specs.Within.{all_within}
use Rattle.integer.specs.laws.Within.{all-at, all_take, all_drop, within-at}
use Rattle.job.specs.Range.{sample_in_range}
use Rattle.readings.specs.Samples.{sample_at}
use Rattle.job.specs.Job.{Job}
use Rattle.job.specs.Values.{Proper}
use Rattle.job.specs.laws.Proper.{ranges}
use Rattle.job_text.specs.JobText.{sample_numbers}
use Rattle.job_text.proofs.Fields.{Short}

abbrev pub job_numbers : Job → ℕ → List ℕ
job_numbers j = sample_numbers j.n j.dilutions j.counts

module _ (j : Job) (p : Proper j) (i : ℕ) where
  pub counts-within : all_within 0 65535 (take j.n (drop (j.n * i) j.counts)) ≡ true
  counts-within = all_take 0 65535 j.n _ (all_drop 0 65535 (j.n * i) j.counts (ranges j p).2)

  pub numbers-short : Short (job_numbers j i)
  unfolding sample_numbers sample_at
  numbers-short zero = omega (arith, all-at 1 100 j.dilutions (ranges j p).1 i)
  numbers-short (suc m) = omega (arith, all-at 0 65535 _ counts-within m)

  module _ (h : i < length j.dilutions) where
    pub counts-count : length (take j.n (drop (j.n * i) j.counts)) ≡ j.n
    counts-count =
        let below : j.n * suc i ≤ j.n * length j.dilutions = mul-le-mul_left j.n h in
        length-take-le j.n _ (rw (length-drop, p.counted, mul_comm (length j.dilutions) j.n) (omega arith))

    pub numbers-count : length (job_numbers j i) ≡ suc j.n
    unfolding sample_numbers sample_at
    numbers-count = ap suc counts-count

    pub numbers-within : sample_in_range (job_numbers j i) ≡ true
    unfolding sample_in_range sample_numbers sample_at
    numbers-within = simp (within-at 1 100 j.dilutions (ranges j p).1 i h, counts-within)
