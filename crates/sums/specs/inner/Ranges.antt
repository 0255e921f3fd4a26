-- What samples and sums of readings within the ranges keep to.
use Rattle.std.specs.Prelude.{◌≡◌, List, ℕ, ◌*◌, ◌≤◌, length, get_or}
use Rattle.limits.specs.Limits.{most_channels, most_samples, most_dilution, most_count}
use Rattle.readings.specs.Samples.{Sample}
use Rattle.sums.specs.declared.Sums.{Sums}

-- One sample of readings within the ranges
pub record InRange (s : Sample) : Type 0 where
  pub channels : length s.counts ≤ most_channels
  pub dilution : s.dilution ≤ most_dilution
  pub count : (i : ℕ) → get_or s.counts i 0 ≤ most_count

-- The greatest value z
abbrev pub z_limit : ℕ
z_limit = most_count * most_dilution

-- m places, none above b
pub record Room (m b : ℕ) (xs : List ℕ) : Type 0 where
  pub size : length xs ≡ m
  pub most : (p : ℕ) → get_or xs p 0 ≤ b

-- Sums of samples within the ranges, no more of them than a job has
pub record Bounded (t : Sums) : Type 0 where
  pub number : t.k ≤ most_samples
  pub channel : (i : ℕ) → get_or t.channel i 0 ≤ t.k * z_limit
  pub cross : (p : ℕ) → get_or t.cross p 0 ≤ t.k * (z_limit * z_limit)
