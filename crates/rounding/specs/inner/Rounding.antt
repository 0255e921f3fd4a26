-- What private functions promise: Document 01, 'Rounding to nearest': rnd(u/w), for whole u and whole w > 0, is the nearest whole number, halves
-- away from zero.
use Rattle.std.specs.Prelude.{ℤ, pos, negsuc}

-- −1 for a negative number, 1 for any other
unfoldable pub sign : ℤ → ℤ
sign (pos u) = pos 1
sign (negsuc u) = negsuc 0
