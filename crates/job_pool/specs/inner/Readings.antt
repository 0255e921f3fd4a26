-- What a table of two jobs' samples requires.
use Rattle.std.specs.Prelude.{ℕ, ◌+◌, ◌≤◌, List, length}
use Rattle.limits.specs.Limits.{most_samples}
use Rattle.readings.specs.Ranges.{Readings}

-- readings, no more of them together than a job has
pub record BothReadings (n1 : ℕ) (dilutions1 counts1 : List ℕ) (n2 : ℕ) (dilutions2 counts2 : List ℕ) : Type 0 where
  pub first : Readings n1 dilutions1 counts1
  pub second : Readings n2 dilutions2 counts2
  pub together : length dilutions1 + length dilutions2 ≤ most_samples
