-- At most 8 channels: how many entries a matrix has, where one stands row after row, and how many pairs there are.
use Rattle.std.specs.Prelude.{ℕ, ◌+◌, ◌-◌, ◌*◌, ◌<◌, ◌≤◌}
use Rattle.std.proofs.Common.{mul-le-mul, arith}
use Rattle.std.proofs.Math.Arith.{digits_lt}

pub places : (n : ℕ) → n ≤ 8 → n * n ≤ 64
places n h = mul-le-mul h h

pub place-below : (n i j : ℕ) → n ≤ 8 → i < n → j < n → i * n + j < 64
place-below n i j h g f = omega (arith, digits_lt {q = i} {m = n} {r = j} {c = n} g f, places n h)

-- n × (n − 1), twice the pairs
pub pairs-twice : (n : ℕ) → n ≤ 8 → n * (n - 1) ≤ 56
pairs-twice n h = mul-le-mul {n₁ = n} {m₁ = n - 1} {n₂ = 8} {m₂ = 7} h (omega arith)
