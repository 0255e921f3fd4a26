-- Bounds of what b of at most 8 makes: 2b + 1, its square and its cube.
use Prim.Native.Nat.{ℕ, ◌*◌, ◌≤◌}
use native.Mathlib.Nat.{mul-le-mul}
use native.Mathlib.Omega.{arith}
use Rattle.panel.specs.Panels.{count_of, width}
use Rattle.panel.specs.laws.Places.{cube}

module _ (b : ℕ) (h : b ≤ 8) where
  pub square-small : width b * width b ≤ 289
  square-small = mul-le-mul {n₁ = width b} {m₁ = width b} {n₂ = 17} {m₂ = 17} (omega arith) (omega arith)

  pub cube-small : width b * width b * width b ≤ 4913
  cube-small = mul-le-mul {n₁ = width b * width b} {m₁ = width b} {n₂ = 289} {m₂ = 17} square-small (omega arith)

  pub count_small : count_of b ≤ 4913
  count_small = rw (cube (width b)) cube-small
