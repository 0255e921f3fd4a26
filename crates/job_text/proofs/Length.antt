-- How long the text of a proper job is at most, and a job whose text is as long.
use Prim.Native.Nat.{ℕ, suc, ◌+◌, ◌*◌, ◌^◌, ◌<◌, ◌≤◌}
use mathlib.Core.Path.{◌≡◌, refl}
use mathlib.Core.List.{List, [], ◌∷◌, map}
use native.Mathlib.Omega.{arith}
use lib.Dec.{lit<}
use lib.IntN.{pos}
use lib.ListN.{length, get_or, take, drop, replicate, length-append}
use Rattle.text.specs.Decimal.{digits, digits_by, number}
use Rattle.text.specs.laws.Digits.{length_digits}
use Rattle.integer.specs.laws.Within.{all-at}
use Rattle.integer.specs.Within.{all_within, within}
use Rattle.text.specs.Line.{further, line, number_line, numbers}
use Rattle.text.specs.Lines.{lines}
use Rattle.text.specs.laws.Lines.{lines-most}
use Rattle.text.specs.laws.Numbers.{length-number-line}
use Rattle.readings.specs.Samples.{sample_at}
use Rattle.readings.specs.Ranges.{parameters_in_range}
use Rattle.job.specs.Job.{Job}
use Rattle.job.specs.Values.{Proper, in_range}
use Rattle.job.specs.laws.Proper.{channels, limit-most, number as samples, ranges, tolerance-most}
use Rattle.job_text.specs.JobText.{Longest, job_text_of, job_line_e, job_line_p, job_line_s, longest, sample_line, sample_numbers}
use Rattle.job_text.proofs.Sample.{counts-count, counts-within}

-- Numbers of at most w + 1 digits, each after a tab
numbers-most : (w : ℕ) (xs : List ℕ) → ((i : ℕ) → get_or xs i 0 < 10 ^ suc w) → length (numbers (map pos xs)) ≤ (w + 2) * length xs
unfolding numbers further number
numbers-most w [] h = omega arith
numbers-most w (x ∷ xs) h = rw length-append (omega (arith, length_digits w x (h 0), numbers-most w xs (λ i. h (suc i))))

module _ (j : Job) (p : Proper j) where
  first-length : length (job_line_p j) ≤ 15
  unfolding job_line_p numbers further number
  first-length =
      let n = length_digits 0 j.n (omega (arith, (channels j p).1)) in
      let limit = length_digits 1 j.limit (omega (arith, limit-most j p)) in
      let tolerance = length_digits 6 j.tolerance (omega (arith, tolerance-most j p)) in
      rw length-number-line (simp length-append (omega arith))

  sample-length : (i : ℕ) → i < length j.dilutions → length (job_line_s j i) ≤ 54
  unfolding sample_line sample_numbers sample_at numbers further number
  sample-length i h =
      let xs = take j.n (drop (j.n * i) j.counts) in
      let dilution = length_digits 2 (get_or j.dilutions i 0) (omega (arith, all-at 1 100 j.dilutions (ranges j p).1 i)) in
      let counts = numbers-most 4 xs (λ m. omega (arith, all-at 0 65535 xs (counts-within j p i) m)) in
      rw length-number-line (simp length-append (omega (arith, counts-count j p i h, (channels j p).1)))

  last-length : length (job_line_e j) ≤ 6
  unfolding job_line_e numbers further number
  last-length =
      let number = length_digits 2 (length j.dilutions) (omega (arith, (samples j p).1)) in
      rw length-number-line (simp length-append (omega arith))

  most : length (job_text_of j) ≤ longest
  unfolding job_text_of
  most =
      let samples-length = lines-most (job_line_s j) 54 (length j.dilutions) sample-length in
      rw (length-append, length-append) (omega (arith, first-length, last-length, (samples j p).1))

-- ---- a job whose text is the longest

abbrev greatest : Job
greatest = record { n = 8; limit = 16; tolerance = 1048576; dilutions = replicate 256 100; counts = replicate 2048 65535 }

greatest-proper : Proper greatest
unfolding in_range parameters_in_range all_within within
greatest-proper = record { ranges = refl; samples = refl; counted = refl }

greatest-length : length (job_text_of greatest) ≡ longest
unfolding job_text_of job_line_p sample_line job_line_e sample_numbers sample_at lines number_line line further number digits digits_by
greatest-length = refl

pub longest-text : Longest
longest-text = record { most = most; reached = (greatest, greatest-proper, greatest-length); below = lit< tt }
