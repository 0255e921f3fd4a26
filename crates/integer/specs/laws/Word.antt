-- Signed numbers of 64 bits: a number below 2^63 in size is held, and is read back from its bits.
use Rattle.std.specs.Prelude.{◌≡◌, ℕ, ◌*◌, ◌%◌, ◌<◌, ◌≤◌, ◌^◌, ℤ, pos, negsuc, nat_abs, neg_ℤ, ◌-ℤ◌, T, Bool, false}
use Rattle.std.proofs.Common.{sym, ap, ◌∙◌, one-mul, arith, shl_exact, true≢false, Fits, SFits, to_z, of_z, to_z-of_z}
use Rattle.std.proofs.Math.IntN.{+ℤ_idl}
use Rattle.std.specs.Int.Signed.{mag, lt_z, non_neg}
use Rattle.std.specs.Int.{w64}
use Rattle.std.proofs.Math.Facts.{sfits_lit, Fits-nat_abs}
use Rattle.integer.specs.laws.Laws.{nat_abs-neg_ℤ, nat_abs--ℤ}

pub mag-le : (z : ℤ) → mag z ≤ nat_abs z
mag-le (pos n) = omega arith
mag-le (negsuc n) = omega arith

pub held : (z : ℤ) → nat_abs z < 2 ^ 63 → SFits w64 z
held z h = record { sfits = omega (arith, mag-le z) }

pub read_back : (z : ℤ) → nat_abs z < 2 ^ 63 → to_z w64 (of_z w64 z) ≡ z
read_back z h = to_z-of_z (held z h)

pub word : {x y : ℤ} → SFits w64 x → x ≡ y → to_z w64 (of_z w64 x) ≡ y
word f e = to_z-of_z f ∙ e

-- a − b, of unsigned numbers
pub difference-held : (a b : ℕ) → a < 2 ^ 63 → b < 2 ^ 63 → SFits w64 (pos a -ℤ pos b)
difference-held a b h g = held (pos a -ℤ pos b) (omega (arith, nat_abs--ℤ a b))

-- 0 − z, as the machine negates
pub negated-held : (z : ℤ) → nat_abs z < 2 ^ 63 → SFits w64 (pos 0 -ℤ z)
negated-held z h = rw +ℤ_idl (held (neg_ℤ z) (rw nat_abs-neg_ℤ h))

pub negated : (z : ℤ) → nat_abs z < 2 ^ 63 → to_z w64 (of_z w64 (pos 0 -ℤ z)) ≡ neg_ℤ z
negated z h = to_z-of_z (negated-held z h) ∙ +ℤ_idl (neg_ℤ z)

-- the test z < 0, of what is read back
pub sign_read : {z : ℤ} {t : Bool} → SFits w64 z → lt_z (to_z w64 (of_z w64 z)) (pos 0) ≡ t → lt_z z (pos 0) ≡ t
sign_read f e = rw (to_z-of_z f) at e

-- a number that is not negative, as a cast to an unsigned one asks for it
pub unsigned : (z : ℤ) → SFits w64 z → lt_z (to_z w64 (of_z w64 z)) (pos 0) ≡ false →
    T (non_neg (to_z w64 (of_z w64 z))) × Fits w64 (nat_abs (to_z w64 (of_z w64 z)))
unsigned z f e = rw (to_z-of_z f) (not_negative z (sign_read f e), Fits-nat_abs tt f)
  where
    not_negative : (z : ℤ) → lt_z z (pos 0) ≡ false → T (non_neg z)
    not_negative (pos n) t = tt
    not_negative (negsuc n) t = absurd (true≢false t)

-- numbers of the same bits
pub same_bits : {x y : ℤ} → SFits w64 x → SFits w64 y → of_z w64 x ≡ of_z w64 y → x ≡ y
same_bits f g e = sym (to_z-of_z f) ∙ ap (to_z w64) e ∙ to_z-of_z g

pub zero_bits : (z : ℤ) → SFits w64 z → of_z w64 z ≡ 0 → z ≡ pos 0
zero_bits z f e = same_bits f (sfits_lit tt) e

-- 1, shifted by e places
pub shifted_one : (e : ℕ) → e < 64 → (1 * 2 ^ e) % 2 ^ 64 ≡ 2 ^ e
shifted_one e h = shl_exact 1 e 64 (omega arith) (omega arith) ∙ one-mul (2 ^ e)
