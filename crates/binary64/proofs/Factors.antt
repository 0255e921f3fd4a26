-- The code's way to z × 2^e / 1024: 2^e / 1024 is a power of two and so is exact, and z times it is exact too.
use Prim.Native.Nat.{ℕ, ◌*◌, ◌^◌, ◌<◌, ◌≤◌}
use mathlib.Core.Path.{◌≡◌, refl, ap₂, ◌∙◌}
use mathlib.Core.Bool.{Bool, true, false}
use native.Mathlib.Nat.{le_trans, mul_comm, one-mul}
use native.Mathlib.Omega.{arith}
use lib.IntN.{ℤ, pos, nat_abs}
use lib.Signed.{lt_z}
use lib.Pow.{pow_mono}
use lib.Ieee.{binary64, unlike, round, mul, div, of_int}
use lib.Ieee.Exact.{HasValue}
use Rattle.limits.specs.Limits.{units, most_shift}
use Rattle.binary64.specs.Binary64.{binary64_of}
use Rattle.binary64.specs.laws.Exact.{value-exact}
use Rattle.binary64.specs.laws.Operations.{product-of-values, quotient-of-values, whole-value, not-below-zero}

pub power_small : (e : ℕ) → e ≤ most_shift → 2 ^ e ≤ 2 ^ 53
power_small e few = le_trans (pow_mono few) (omega arith)

power-value : (e : ℕ) → e ≤ most_shift → HasValue (of_int binary64 (pos (2 ^ e))) false (2 ^ e) 1
power-value e few = rw not-below-zero at (whole-value (pos (2 ^ e)) (power_small e few))

pub factor-quotient : (e : ℕ) → e ≤ most_shift → div binary64 (of_int binary64 (pos (2 ^ e))) (of_int binary64 (pos units)) ≡ binary64_of (pos 1) e
unfolding binary64_of
factor-quotient e few =
    quotient-of-values binary64 false false (2 ^ e) units 1 1 (omega arith) (omega arith) (of_int binary64 (pos (2 ^ e)))
    (of_int binary64 (pos units)) (omega arith) (power-value e few) (whole-value (pos units) (omega arith))
    ∙ ap₂ (round binary64 false) (mul_comm (2 ^ e) 1) refl

unlike-plus : (s : Bool) → unlike s false ≡ s
unlike-plus true = refl
unlike-plus false = refl

pub scaled-product : (z : ℤ) (e : ℕ) → nat_abs z < 2 ^ 53 → e ≤ most_shift →
    mul binary64 (of_int binary64 z) (binary64_of (pos 1) e) ≡ binary64_of z e
unfolding binary64_of
scaled-product z e small few =
    product-of-values binary64 (lt_z z (pos 0)) false (nat_abs z) (1 * 2 ^ e) 1 units (omega arith) (omega arith) (of_int binary64 z)
    (binary64_of (pos 1) e) (whole-value z (omega arith)) (value-exact (pos 1) e (omega arith) few)
    ∙ ap₂ (λ (s : Bool) (p : ℕ). round binary64 s (nat_abs z * p) units) (unlike-plus (lt_z z (pos 0))) (one-mul (2 ^ e))
