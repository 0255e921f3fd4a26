-- What the search for the shift promises.
use Rattle.std.specs.Prelude.{ℕ, ◌*◌, ◌^◌, ◌<◌, ◌≤◌}

-- e is the smallest with m ≤ limit × 2^e
pub record LeastShift (limit m e : ℕ) : Type 0 where
  pub enough : m ≤ limit * 2 ^ e
  pub least : (d : ℕ) → d < e → limit * 2 ^ d < m
