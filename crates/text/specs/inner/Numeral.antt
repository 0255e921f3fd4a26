-- What private functions promise: Decimal numbers as they are read: 48 to 57 are the decimal digits.
use Rattle.std.specs.Prelude.{ℕ, Bool}
use Rattle.integer.specs.Within.{within}

abbrev pub is_digit : ℕ → Bool
is_digit b = within 48 57 b
