-- A product and a quotient of binary64 numbers by their values: the fraction's nearest number, with either sign.
use Rattle.std.specs.Prelude.{ℕ, suc, ◌*◌, ◌≤◌, ◌<◌, ◌^◌, ◌≡◌, Bool, true, false, not, ℤ, pos, negsuc, nat_abs, T, ltb, eqb, Float}
use Rattle.std.proofs.Common.{sym, ap, ◌∙◌, subst, lt_irrefl, mul-pos, mul_comm, eqb→eq, lt→ltb, le→leb}
use Rattle.std.proofs.Math.Path.{ap₂}
use Rattle.std.proofs.Math.Nat.{mul-mul-mul_comm}
use Rattle.std.specs.Int.Signed.{lt_z}
use Rattle.std.proofs.Math.Dec.{not_T, leb-suc-zero}
use Rattle.std.specs.Float.Ieee.{nan, unlike, up, down, round, mul, div, of_int, in_float}
use Rattle.std.specs.Float.{inf, fin, Format, binary64}
use Rattle.std.specs.Float.Ieee.Back.{round_whole}
use Rattle.std.specs.Float.Ieee.Bits.{cond_no}
use Rattle.std.specs.Float.Ieee.Exact.{HasValue}
use Rattle.std.specs.Float.Ieee.Fits.{down_pos}
use Rattle.std.specs.Float.Ieee.Positive.{first_pos}
use Rattle.std.specs.Float.Ieee.Scale.{round_same}

module _ (f : Format) (s t : Bool) (a b c d : ℕ) (C : 0 < c) (D : 0 < d) where
  cross : (M N e h : ℕ) → M * c ≡ a * e → N * d ≡ b * h → M * N * (c * d) ≡ a * b * (e * h)
  cross M N e h p q = mul-mul-mul_comm M N c d ∙ ap₂ ◌*◌ p q ∙ mul-mul-mul_comm a e b h

  -- ±a/c × ±b/d
  pub product-of-values : (x y : Float) → HasValue x s a c → HasValue y t b d → mul f x y ≡ round f (unlike s t) (a * b) (c * d)
  unfolding mul
  product-of-values nan y v w = absurd v
  product-of-values (inf u) y v w = absurd v
  product-of-values (fin u m e) nan v w = absurd w
  product-of-values (fin u m e) (inf r) v w = absurd w
  product-of-values (fin u m e) (fin r n h) v w =
      ap₂ (λ (i j : Bool). round f (unlike i j) (m * up e * (n * up h)) (down e * down h)) v.0 w.0
      ∙ round_same f (unlike s t) (m * up e * (n * up h)) (down e * down h) (a * b) (c * d) (mul-pos (down_pos e) (down_pos h)) (mul-pos C D)
      (cross (m * up e) (n * up h) (down e) (down h) v.1 w.1)

  crossed : (M N e h : ℕ) → M * c ≡ a * e → N * d ≡ b * h → M * h * (c * b) ≡ a * d * (N * e)
  crossed M N e h p q =
      mul-mul-mul_comm M h c b
      ∙ ap₂ ◌*◌ p (mul_comm h b ∙ sym q)
      ∙ mul-mul-mul_comm a e N d
      ∙ ap (λ (x : ℕ). a * N * x) (mul_comm e d)
      ∙ sym (mul-mul-mul_comm a d N e)

  not-zero : (n : ℕ) → 0 < n → T (not (eqb n 0))
  not-zero n p = not_T (eqb n 0) (λ h. lt_irrefl 0 (subst (λ (k : ℕ). 0 < k) (eqb→eq n 0 h) p))

  -- ±a/c ÷ ±b/d, where b is not 0
  pub quotient-of-values : (x y : Float) → 0 < b → HasValue x s a c → HasValue y t b d → div f x y ≡ round f (unlike s t) (a * d) (c * b)
  unfolding div
  quotient-of-values nan y B v w = absurd v
  quotient-of-values (inf u) y B v w = absurd v
  quotient-of-values (fin u m e) nan B v w = absurd w
  quotient-of-values (fin u m e) (inf r) B v w = absurd w
  quotient-of-values (fin u m e) (fin r n h) B v w =
      let above : 0 < n * up h = first_pos (n * up h) d (subst (λ (k : ℕ). 0 < k) (sym w.1) (mul-pos B (down_pos h))) in
      cond_no (eqb n 0) _ _ (not-zero n (first_pos n (up h) above))
      ∙ ap₂ (λ (i j : Bool). round f (unlike i j) (m * up e * down h) (n * up h * down e)) v.0 w.0
      ∙ round_same f (unlike s t) (m * up e * down h) (n * up h * down e) (a * d) (c * b) (mul-pos above (down_pos e)) (mul-pos C B)
      (crossed (m * up e) (n * up h) (down e) (down h) v.1 w.1)

pub not-below-zero : (n : ℕ) → ltb n 0 ≡ false
not-below-zero n = leb-suc-zero n

-- A whole number of up to 2^53 in size, as a binary64 number.
pub whole-value : (z : ℤ) → nat_abs z ≤ 2 ^ 53 → HasValue (of_int binary64 z) (lt_z z (pos 0)) (nat_abs z) 1
unfolding of_int
whole-value (pos n) h = rw not-below-zero (round_whole binary64 false n h)
whole-value (negsuc n) h = round_whole binary64 true (suc n) h

pub whole-held : (z : ℤ) → nat_abs z ≤ 2 ^ 53 → T (in_float binary64 z)
unfolding in_float
whole-held (pos n) h = le→leb n (2 ^ 53) h
whole-held (negsuc n) h = lt→ltb n (2 ^ 53) h
