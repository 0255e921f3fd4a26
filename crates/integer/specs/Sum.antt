-- Finite sums of functions on ℕ, with values in ℤ and in ℕ.
use Rattle.std.specs.Prelude.{ℕ, zero, suc, ◌+◌, ℤ, pos, ◌+ℤ◌}

-- the sum of f i for i from 0 to n − 1
unfoldable pub sum : ℕ → (ℕ → ℤ) → ℤ
sum zero f = pos zero
sum (suc n) f = sum n f +ℤ f n

-- the same in ℕ
unfoldable pub sumℕ : ℕ → (ℕ → ℕ) → ℕ
sumℕ zero f = zero
sumℕ (suc n) f = sumℕ n f + f n
