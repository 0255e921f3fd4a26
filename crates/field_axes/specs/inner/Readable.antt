-- What private functions promise: Readings that are not refused: what they keep to, and how many numbers their table gives.
use Rattle.std.specs.Prelude.{ℕ, ◌+◌, ◌*◌, ◌≤◌, List}
use Rattle.readings.specs.Ranges.{Readings}

pub record Readable (n : ℕ) (dilutions counts : List ℕ) (size : ℕ) : Type 0 where
  pub readings : Readings n dilutions counts
  pub room : 1 + 2 * (n * n) ≤ size
