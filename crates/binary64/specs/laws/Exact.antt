-- Nothing is lost: z × 2^e / 1024 is a binary64 number for every |z| < 2^53 and every e up to 40, and its bytes read back are that number.
use Rattle.std.specs.Prelude.{ℕ, ◌+◌, ◌*◌, ◌^◌, ◌<◌, ◌≤◌, ◌≡◌, refl, Bool, false, not, ℤ, pos, nat_abs, replicate, T, Float}
use Rattle.std.proofs.Common.{sym, ap, ◌∙◌, add_assoc, mul_assoc, lt_of_lt_of_le, zero-mul, arith, pow-add, pow_mono, shl_lt}
use Rattle.std.specs.Int.Signed.{lt_z}
use Rattle.std.specs.Float.{nan, inf, fin, binary64}
use Rattle.std.specs.Float.Ieee.{fits, is_nan, odd, units as smallest, round, size, span, climb, to_bits}
use Rattle.std.specs.Float.Ieee.Exact.{HasValue, round_exact}
use Rattle.std.specs.Float.Ieee.Fits.{round-fits}
use Rattle.limits.specs.Limits.{units, most_shift}
use Rattle.binary64.specs.Binary64.{binary64_of, low_bytes, bytes_of, NothingLost}
use Rattle.binary64.specs.laws.Bytes.{eight-bytes, are-bytes, bytes_read}
use Rattle.binary64.specs.laws.Unique.{same-value}

-- |z| × 2^e / 1024 in units of 2^-1074, the format's smallest value: |z| × 2^(e + 1064)
in-smallest : (q e : ℕ) → q * 2 ^ e * 2 ^ 1074 ≡ q * 2 ^ (e + 1064) * 1024
in-smallest q e =
    mul_assoc q (2 ^ e) (2 ^ 1074)
    ∙ ap (λ (x : ℕ). q * x) (sym (pow-add 2 e 1074) ∙ ap (λ (k : ℕ). 2 ^ k) (sym (add_assoc e 1064 10)) ∙ pow-add 2 (e + 1064) 10)
    ∙ sym (mul_assoc q (2 ^ (e + 1064)) 1024)

pub value-exact : (z : ℤ) (e : ℕ) → nat_abs z < 2 ^ 53 → e ≤ most_shift →
    HasValue (binary64_of z e) (lt_z z (pos 0)) (nat_abs z * 2 ^ e) units
unfolding binary64_of
value-exact z e small few =
    round_exact binary64 (lt_z z (pos 0)) (nat_abs z * 2 ^ e) units (nat_abs z) (e + 1064) (omega arith) small
    (lt_of_lt_of_le (shl_lt 53 (e + 1064) small) (pow_mono {j = 2098} (omega arith)))
    (in-smallest (nat_abs z) e)

number-held : (z : ℤ) (e : ℕ) → T (fits binary64 (binary64_of z e))
unfolding binary64_of
number-held z e = round-fits binary64 (lt_z z (pos 0)) (nat_abs z * 2 ^ e) units

zero_number : (e : ℕ) → binary64_of (pos 0) e ≡ fin false 0 (pos 0)
unfolding binary64_of round size smallest odd span climb
zero_number e = ap (λ (n : ℕ). round binary64 false n units) (zero-mul (2 ^ e)) ∙ refl

zero-bytes : bytes_of (fin false 0 (pos 0)) ≡ replicate 8 0
unfolding bytes_of low_bytes to_bits size span climb
zero-bytes = refl

pub nothing-lost : (z : ℤ) (e : ℕ) → nat_abs z < 2 ^ 53 → e ≤ most_shift → NothingLost z e
nothing-lost z e small few = record {
  held = number-held z e;
  value = value-exact z e small few;
  only = λ x h v. same-value binary64 x (binary64_of z e) _ _ units (omega arith) h (number-held z e) v (value-exact z e small few);
  eight = eight-bytes (binary64_of z e);
  are-bytes = are-bytes (binary64_of z e);
  read = bytes_read (binary64_of z e) (number-held z e);
  plus-zero = λ h. ap (λ (x : ℤ). bytes_of (binary64_of x e)) h ∙ ap bytes_of (zero_number e) ∙ zero-bytes;
}

-- What has a value is no NaN, so its bits can be had.
pub no_nan : (x : Float) (s : Bool) (a c : ℕ) → HasValue x s a c → T (not (is_nan x))
unfolding is_nan
no_nan nan s a c v = v
no_nan (inf t) s a c v = absurd v
no_nan (fin t m k) s a c v = tt

pub a-number : (z : ℤ) (e : ℕ) → nat_abs z < 2 ^ 53 → e ≤ most_shift → T (not (is_nan (binary64_of z e)))
a-number z e small few = no_nan (binary64_of z e) (lt_z z (pos 0)) (nat_abs z * 2 ^ e) units (value-exact z e small few)
