-- The sign of a number, as `sign_of` computes it; times the number it is the size, and times the rounded size it is rnd.
use mathlib.Core.Path.{◌≡◌, refl, ap, ◌∙◌}
use Prim.Native.Nat.{ℕ, suc, ◌+◌, ◌/◌, ◌<◌, ◌^◌}
use native.Mathlib.Nat.{one-mul, div-eq_of_lt, div-le_self}
use native.Mathlib.Omega.{arith}
use lib.IntN.{ℤ, pos, negsuc, neg_ℤ, nat_abs, ◌+ℤ◌, ◌*ℤ◌}
use lib.Signed.{shr_z}
use mir.Syntax.{w64}
use mir.Val.{SFits, to_z, of_z}
use mir.Facts.{to_z-of_z, to_z_pos, sfits_lit}
use Rattle.integer.specs.laws.Word.{held, word}
use Rattle.rounding.specs.laws.Nearest.{rnd-size}
use Rattle.rounding.specs.Rounding.{rnd}
use Rattle.rounding.specs.inner.Rounding.{sign}

-- 0 for a number that is not negative, −1 for a negative one
abbrev pub sign_bit : ℤ → ℤ
sign_bit (pos u) = pos 0
sign_bit (negsuc u) = negsuc 0

shift : (u : ℤ) → SFits w64 u → shr_z u (2 ^ 63) ≡ sign_bit u
shift (pos u) f = ap pos (div-eq_of_lt f.sfits)
shift (negsuc u) f = ap negsuc (div-eq_of_lt f.sfits)

sign_bit-fits : (u : ℤ) → SFits w64 (sign_bit u)
sign_bit-fits (pos u) = sfits_lit tt
sign_bit-fits (negsuc u) = sfits_lit tt

pub shifted : (u : ℤ) → SFits w64 u → to_z w64 (of_z w64 (shr_z (to_z w64 (of_z w64 u)) (2 ^ 63))) ≡ sign_bit u
shifted u f = rw (to_z-of_z f, shift u f) (to_z-of_z (sign_bit-fits u))

pub twice-fits : (u : ℤ) → SFits w64 (pos 2 *ℤ sign_bit u)
twice-fits (pos u) = sfits_lit tt
twice-fits (negsuc u) = sfits_lit tt

pub sum_fits : (u : ℤ) → SFits w64 (pos 2 *ℤ sign_bit u +ℤ pos 1)
sum_fits (pos u) = sfits_lit tt
sum_fits (negsuc u) = sfits_lit tt

pub sum-sign : (u : ℤ) → pos 2 *ℤ sign_bit u +ℤ pos 1 ≡ sign u
unfolding sign
sum-sign (pos u) = refl
sum-sign (negsuc u) = refl

sign_fits : (u : ℤ) → SFits w64 (sign u)
unfolding sign
sign_fits (pos u) = sfits_lit tt
sign_fits (negsuc u) = sfits_lit tt

sign-size : (u : ℤ) → sign u *ℤ u ≡ pos (nat_abs u)
unfolding sign
sign-size (pos u) = ap pos (one-mul u)
sign-size (negsuc u) = ap pos (one-mul (suc u))

sign-rnd : (u : ℤ) (w : ℕ) → sign u *ℤ pos ((nat_abs u + w / 2) / w) ≡ rnd u w
unfolding sign rnd
sign-rnd (pos u) w = ap pos (one-mul ((u + w / 2) / w))
sign-rnd (negsuc u) w = ap (λ n. neg_ℤ (pos n)) (one-mul ((suc u + w / 2) / w))

-- What `nearest` computes, of numbers as the machine reads them back from their bits: s is the sign, and q the rounded size
module _ (u s : ℤ) (w : ℕ) (f : SFits w64 u) (e : s ≡ sign (to_z w64 (of_z w64 u))) (small : nat_abs u + w / 2 < 2 ^ 63) where
  product : to_z w64 (of_z w64 s) *ℤ to_z w64 (of_z w64 u) ≡ pos (nat_abs u)
  product = rw (e, to_z-of_z f, to_z-of_z (sign_fits u)) (sign-size u)

  pub product-fits : SFits w64 (to_z w64 (of_z w64 s) *ℤ to_z w64 (of_z w64 u))
  product-fits = rw product (held (pos (nat_abs u)) (omega arith))

  pub size : to_z w64 (of_z w64 (to_z w64 (of_z w64 s) *ℤ to_z w64 (of_z w64 u))) ≡ pos (nat_abs u)
  size = word product-fits product

  module _ (q : ℕ) (r : q ≡ (nat_abs (to_z w64 (of_z w64 (to_z w64 (of_z w64 s) *ℤ to_z w64 (of_z w64 u)))) + w / 2) / w) where
    rounded : q ≡ (nat_abs u + w / 2) / w
    rounded = r ∙ ap (λ z. (nat_abs z + w / 2) / w) size

    pub rounded-small : q < 2 ^ 63
    rounded-small = omega (arith, rounded, div-le_self (nat_abs u + w / 2) w)

    pub result : to_z w64 (of_z w64 s) *ℤ to_z w64 q ≡ rnd u w
    result = rw (e, to_z-of_z f, to_z-of_z (sign_fits u), to_z_pos w64 rounded-small, rounded) (sign-rnd u w)

    pub result_fits : SFits w64 (to_z w64 (of_z w64 s) *ℤ to_z w64 q)
    result_fits = rw result (held (rnd u w) (rw rnd-size (omega (arith, rounded, rounded-small))))

-- by which `sign_of` and `nearest` are proved
pub ruleset signs = (to_z-of_z, shifted, twice-fits, sum_fits, sum-sign)

pub ruleset roundings = (word, product-fits, size, rounded-small, result, result_fits)
