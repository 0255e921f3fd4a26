-- What private functions promise: A run that is not refused: what its arguments keep to, and how many numbers it gives.
use Rattle.std.specs.Prelude.{ℕ, ◌+◌, ◌*◌, ◌≤◌, List, ℤ}
use Rattle.run.specs.Run.{Allowed}

pub record Solvable (n : ℕ) (numbers : List ℤ) (limit t size : ℕ) : Type 0 where
  pub allowed : Allowed n numbers limit t
  pub room : 3 + n * (n + 2) ≤ size
