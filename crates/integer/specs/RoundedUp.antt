-- A quotient rounded up to a whole number.
use Rattle.std.specs.Prelude.{ℕ, ◌+◌, ◌-◌, ◌/◌}

-- x / y rounded up
unfoldable pub rounded_up : ℕ → ℕ → ℕ
rounded_up x y = (x + (y - 1)) / y
