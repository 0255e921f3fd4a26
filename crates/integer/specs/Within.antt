-- Numbers within a range: the test, of one and of each of a list.
use Rattle.std.specs.Prelude.{ℕ, Bool, true, ◌&&◌, List, [], ◌∷◌, leb}

unfoldable pub within : ℕ → ℕ → ℕ → Bool
within low high x = leb low x && leb x high

unfoldable pub all_within : ℕ → ℕ → List ℕ → Bool
all_within low high [] = true
all_within low high (x ∷ xs) = within low high x && all_within low high xs
