-- A signed number that is within a range of naturals, by its size.
use mathlib.Core.Path.{◌≡◌, sym}
use mathlib.Core.Bool.{true, true≢false}
use Prim.Native.Nat.{ℕ, ◌≤◌}
use lib.IntN.{ℤ, pos, negsuc, nat_abs}
use Rattle.integer.specs.laws.Within.{is_within}
use Rattle.panel.specs.Refusal.{natural_within}

pub in-range : (low high : ℕ) (z : ℤ) → natural_within low high z ≡ true → (low ≤ nat_abs z) × (nat_abs z ≤ high)
unfolding natural_within
in-range low high (pos n) e = is_within low high n e
in-range low high (negsuc n) e = absurd (true≢false (sym e))
