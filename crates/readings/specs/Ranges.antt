-- The ranges of what a job is made of: its parameters, and its samples as they are handed over.
use Rattle.std.specs.Prelude.{◌≡◌, Bool, ◌&&◌, List, ℕ, ◌*◌, ◌≤◌, length, get_or}
use Rattle.integer.specs.Within.{all_within, within}
use Rattle.limits.specs.Limits.{least_channels, least_dilution, least_sweeps, most_channels, most_count, most_dilution, most_samples, most_sweeps}
use Rattle.limits.specs.Limits.{tolerance_limit}

-- "`P` n (2..8), sweep limit (1..16), tolerance t in units (0..1,048,576)."
unfoldable pub parameters_in_range : ℕ → ℕ → ℕ → Bool
parameters_in_range n limit tolerance =
    within least_channels most_channels n && within least_sweeps most_sweeps limit && within 0 tolerance_limit tolerance

-- "dilution (1..100) and n counts (0..65,535)": every dilution and every count that is there
abbrev pub samples_within : List ℕ → List ℕ → Bool
samples_within dilutions counts = all_within least_dilution most_dilution dilutions && all_within 0 most_count counts

-- n from 2 to 8, and the samples
abbrev pub values_within : ℕ → List ℕ → List ℕ → Bool
values_within n dilutions counts = within least_channels most_channels n && samples_within dilutions counts

-- the parameters, and the samples
abbrev pub job_within : ℕ → ℕ → ℕ → List ℕ → List ℕ → Bool
job_within n limit tolerance dilutions counts = parameters_in_range n limit tolerance && samples_within dilutions counts

-- A dilution for each sample and n counts to a sample, each within its range. Document 01 has 2 to 8 channels and 2 to 256 samples; fewer do no
-- harm to sums and tables.
pub record Readings (n : ℕ) (dilutions counts : List ℕ) : Type 0 where
  pub channels : n ≤ most_channels
  pub number : length dilutions ≤ most_samples
  pub counted : length counts ≡ n * length dilutions
  pub dilution : (s : ℕ) → get_or dilutions s 0 ≤ most_dilution
  pub count : (p : ℕ) → get_or counts p 0 ≤ most_count
