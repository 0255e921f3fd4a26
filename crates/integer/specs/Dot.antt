-- The scalar product of two vectors.
use Rattle.std.specs.Prelude.{ℕ, ℤ, ◌*ℤ◌}
use Rattle.integer.specs.Sum.{sum}

unfoldable pub dot : ℕ → (ℕ → ℤ) → (ℕ → ℤ) → ℤ
dot n x y = sum n (λ i. x i *ℤ y i)
