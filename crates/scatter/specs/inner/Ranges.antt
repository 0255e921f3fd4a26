-- What the numbers of a table keep to.
use Rattle.std.specs.Prelude.{◌≡◌, List, ℕ, ◌^◌, ◌<◌, ◌≤◌, ℤ, pos, nat_abs, length, get_or}

-- 64 numbers that can be rounded in 64 bits
pub record Roundable (us : List ℤ) : Type 0 where
  pub size : length us ≡ 64
  pub small : (p : ℕ) → nat_abs (get_or us p (pos 0)) < 2 ^ 62

-- At most 64 numbers, and zeros after them
pub record ZeroFrom (size : ℕ) (us : List ℤ) : Type 0 where
  pub most : size ≤ 64
  pub zero : (p : ℕ) → size ≤ p → get_or us p (pos 0) ≡ pos 0
