-- The square of an integer, as a natural number.
use Rattle.std.specs.Prelude.{ℕ, ◌*◌, ℤ, nat_abs}

unfoldable pub sq : ℤ → ℕ
sq z = nat_abs z * nat_abs z
