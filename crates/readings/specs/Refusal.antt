-- Samples handed over, n and a dilution each and n counts each: the number that they are refused with, or 0 where they are taken. Document 02, W1:
-- 'Values out of range get 2, counts that aren't n to a sample get 6 (here and wherever samples are handed over), fewer than 2 or more than 256
-- samples get 3 .. tried in that order'.
use Rattle.std.specs.Prelude.{ℕ, ◌*◌, Bool, List, eqb, length}
use Rattle.limits.specs.Unless.{unless}
use Rattle.limits.specs.Limits.{least_samples, most_samples}
use Rattle.integer.specs.Within.{within}
use Rattle.readings.specs.Ranges.{job_within, values_within}

-- 'counts that aren't n to a sample get 6'
abbrev pub are_counted : ℕ → List ℕ → List ℕ → Bool
are_counted n dilutions counts = eqb (length counts) (n * length dilutions)

-- 'fewer than 2 or more than 256 samples get 3'
abbrev pub are_so_many : List ℕ → Bool
are_so_many dilutions = within least_samples most_samples (length dilutions)

-- after the values: how many counts there are, then how many samples
unfoldable pub number_refusal : ℕ → List ℕ → List ℕ → ℕ
number_refusal n dilutions counts = unless (are_counted n dilutions counts) 6 (unless (are_so_many dilutions) 3 0)

-- n and samples
unfoldable pub samples_refusal : ℕ → List ℕ → List ℕ → ℕ
samples_refusal n dilutions counts = unless (values_within n dilutions counts) 2 (number_refusal n dilutions counts)

-- n, sweep limit, tolerance and samples
unfoldable pub job_refusal : ℕ → ℕ → ℕ → List ℕ → List ℕ → ℕ
job_refusal n limit tolerance dilutions counts =
    unless (job_within n limit tolerance dilutions counts) 2 (number_refusal n dilutions counts)
