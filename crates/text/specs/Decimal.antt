-- Decimal numbers as bytes: no leading zero unless the number is 0, and a leading minus for a negative one.
use Rattle.std.specs.Prelude.{ℕ, zero, suc, ◌+◌, ◌/◌, ◌%◌, Bool, true, false, List, [], ◌∷◌, ◌++◌, ltb, ℤ, pos, negsuc}

-- The digits of x, by whether x is a single digit. f is at least x, and counts down so that the recursion ends.
unfoldable pub digits_by : ℕ → ℕ → Bool → List ℕ
digits_by zero x t = (48 + x) ∷ []
digits_by (suc f) x true = (48 + x) ∷ []
digits_by (suc f) x false = digits_by f (x / 10) (ltb (x / 10) 10) ++ ((48 + x % 10) ∷ [])

unfoldable pub digits : ℕ → List ℕ
digits x = digits_by x x (ltb x 10)

unfoldable pub number : ℤ → List ℕ
number (pos n) = digits n
number (negsuc n) = 45 ∷ digits (suc n)
