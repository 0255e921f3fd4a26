-- Where the choice rule picks a turn, the exactly rotated a_pq is at most half the old one in size.
use Rattle.std.specs.Prelude.{◌≡◌, Bool, false, [], ◌∷◌, ℕ, suc, ◌+◌, ◌-◌, ◌*◌, ◌<◌, ◌≤◌, ◌^◌, leb, ℤ, pos, negsuc, neg_ℤ, ◌+ℤ◌, ◌-ℤ◌, ◌*ℤ◌, Some}
use Rattle.std.proofs.Common.{sym, ◌∙◌, le_of_lt, arith, leb→le}
use Rattle.std.proofs.Math.Path.{ap}
use Rattle.std.proofs.Math.Decide.{dec_lt}
use Rattle.std.proofs.Math.Nat.{mul-le-mul_left, mul-le-mul_right, one-le-pow}
use Rattle.std.proofs.Math.IntN.{nat_abs, -ℤ_one}
use Rattle.integer.specs.laws.Laws.{nat_abs-neg_ℤ, nat_abs--ℤ, pos-injective}
use Rattle.integer.specs.Matrix.{Matrix, product, conjugate}
use Rattle.integer.specs.Matrix.{Symmetric}
use Rattle.integer.specs.laws.Ring.{ring, reading}
use Rattle.choice.specs.Choice.{choose, minus_sign, negative, turn_of}
use Rattle.choice.specs.Rule.{LeastFit}
use Rattle.choice.specs.Threshold.{threshold, u, w}
use Rattle.integer.specs.RoundedUp.{rounded_up}
use Rattle.choice.specs.laws.Threshold.{from-1-to-14}
use Rattle.choice.specs.laws.Smallest.{chosen-rule, sign-rule, sign-unique}
use Rattle.turn.specs.laws.Exact.{rotation_of-whole, exact-rows, exact-columns}
use Rattle.turn.specs.Exact.{exact}
use Rattle.turn.specs.Gain.{exactly_turned}
use Rattle.turn.specs.Rotation.{rotation_of}
use Rattle.integer.specs.Signed.{signed}
use Rattle.turn.specs.declared.pair.Rotation.{Rotation}

-- the exactly rotated a_pq, times N²: (c² − s²) × a_pq + c × s × (a_qq − a_pp)
pair-entry : (r : Rotation) (n p q : ℕ) → p < q → q < n → (a : Matrix) → Symmetric n a →
    exactly_turned n r p q a p q ≡ (r.c *ℤ r.c -ℤ r.s *ℤ r.s) *ℤ a p q +ℤ r.c *ℤ r.s *ℤ (a q q -ℤ a p p)
unfolding conjugate
pair-entry r n p q l k a h =
    (exact-columns r n p q l k (product n (exact r p q) a) p).second
    ∙ rw ((exact-rows r n p q l k a p).first, (exact-rows r n p q l k a q).first, h q p k (omega arith))
    (ring (r.c ∷ r.s ∷ a p p ∷ a q q ∷ a p q ∷ []) (search reading depth 20) tt)

-- The sign f sets the second term against the first. With C = c, S = |s|, x = |a_pq| and g = |a_qq − a_pp| the entry is
-- ±(C² × x − (S² × x + C × S × g))
against : ℤ → ℤ → ℤ → ℤ → ℤ
against c s x g = c *ℤ c *ℤ x -ℤ (s *ℤ s *ℤ x +ℤ c *ℤ s *ℤ g)

apart : ℕ → ℕ → ℕ
apart x y = (x - y) + (y - x)

module _ (C S : ℕ) where
  Opposed : ℤ → ℤ → Type 0
  Opposed b d =
      let s = signed (minus_sign b d) S in
      nat_abs ((pos C *ℤ pos C -ℤ s *ℤ s) *ℤ b +ℤ pos C *ℤ s *ℤ d) ≡ apart (C * C * nat_abs b) (S * S * nat_abs b + C * S * nat_abs d)

  opposed : (b d : ℤ) → Opposed b d
  unfolding Opposed minus_sign negative signed apart against
  opposed = cases
    where
      as-it-is : {z : ℤ} (x g : ℕ) → z ≡ against (pos C) (pos S) (pos x) (pos g) → nat_abs z ≡ apart (C * C * x) (S * S * x + C * S * g)
      as-it-is x g e = ap nat_abs e ∙ nat_abs--ℤ (C * C * x) (S * S * x + C * S * g)

      negated : {z : ℤ} (x g : ℕ) → z ≡ neg_ℤ (against (pos C) (pos S) (pos x) (pos g)) → nat_abs z ≡ apart (C * C * x) (S * S * x + C * S * g)
      negated x g e = ap nat_abs e ∙ nat_abs-neg_ℤ (against (pos C) (pos S) (pos x) (pos g)) ∙ nat_abs--ℤ (C * C * x) (S * S * x + C * S * g)

      -- neither of a_pq and a_qq − a_pp is negative, the second alone, the first alone, both
      neither : (c s x g : ℤ) → (c *ℤ c -ℤ neg_ℤ s *ℤ neg_ℤ s) *ℤ x +ℤ c *ℤ neg_ℤ s *ℤ g ≡ against c s x g
      neither c s x g = ring (c ∷ s ∷ x ∷ g ∷ []) (search reading depth 20) tt

      second : (c s x g : ℤ) → (c *ℤ c -ℤ s *ℤ s) *ℤ x +ℤ c *ℤ s *ℤ neg_ℤ g ≡ against c s x g
      second c s x g = ring (c ∷ s ∷ x ∷ g ∷ []) (search reading depth 20) tt

      first : (c s x g : ℤ) → (c *ℤ c -ℤ s *ℤ s) *ℤ neg_ℤ x +ℤ c *ℤ s *ℤ g ≡ neg_ℤ (against c s x g)
      first c s x g = ring (c ∷ s ∷ x ∷ g ∷ []) (search reading depth 20) tt

      both : (c s x g : ℤ) → (c *ℤ c -ℤ neg_ℤ s *ℤ neg_ℤ s) *ℤ neg_ℤ x +ℤ c *ℤ neg_ℤ s *ℤ neg_ℤ g ≡ neg_ℤ (against c s x g)
      both c s x g = ring (c ∷ s ∷ x ∷ g ∷ []) (search reading depth 20) tt

      cases : (b d : ℤ) → Opposed b d
      cases (pos x) (pos g) = as-it-is x g (neither (pos C) (pos S) (pos x) (pos g))
      cases (pos x) (negsuc g) = as-it-is x (suc g) (second (pos C) (pos S) (pos x) (pos (suc g)))
      cases (negsuc x) (pos g) = negated (suc x) g (first (pos C) (pos S) (pos (suc x)) (pos g))
      cases (negsuc x) (negsuc g) = negated (suc x) (suc g) (both (pos C) (pos S) (pos (suc x)) (pos (suc g)))

-- C and S of l
C : ℕ → ℕ
C l = 4 ^ l - 1

S : ℕ → ℕ
S l = 2 ^ (l + 1)

cosine : (l : ℕ) → pos (4 ^ l) -ℤ pos 1 ≡ pos (C l)
unfolding C
cosine l = ap (λ k. pos k -ℤ pos 1) predecessor ∙ -ℤ_one (pos (suc (4 ^ l - 1)))
  where
    predecessor : 4 ^ l ≡ suc (4 ^ l - 1)
    predecessor = omega (arith, one-le-pow l 4 (omega arith))

-- N² = C² + S²
norm : (l : ℕ) → (4 ^ l + 1) * (4 ^ l + 1) ≡ C l * C l + S l * S l
unfolding rotation_of signed S
norm l = sym (pos-injective (C l * C l + S l * S l) ((4 ^ l + 1) * (4 ^ l + 1)) (rw (cosine l) at (rotation_of-whole l false).norm))

-- Three computed tests. In the first the difference is 0 for l = 1, where there is no threshold of l − 1.
above-test : (l : ℕ) → 1 ≤ l → l ≤ 14 → (C l * C l - 3 * (S l * S l)) * threshold (l - 1) ≤ 4 * (C l * S l) * 2 ^ 24
unfolding C S threshold rounded_up u w
above-test l h k = leb→le _ _ (from-1-to-14 (λ l. leb ((C l * C l - 3 * (S l * S l)) * threshold (l - 1)) (4 * (C l * S l) * 2 ^ 24)) tt l h k)

below-test : (l : ℕ) → 1 ≤ l → l ≤ 14 → 4 * (C l * S l) * 2 ^ 24 ≤ (3 * (C l * C l) - S l * S l) * threshold l
unfolding C S threshold rounded_up u w
below-test l h k = leb→le _ _ (from-1-to-14 (λ l. leb (4 * (C l * S l) * 2 ^ 24) ((3 * (C l * C l) - S l * S l) * threshold l)) tt l h k)

size-test : (l : ℕ) → 1 ≤ l → l ≤ 14 → S l * S l ≤ 3 * (C l * C l)
unfolding C S
size-test l h k = leb→le _ _ (from-1-to-14 (λ l. leb (S l * S l) (3 * (C l * C l))) tt l h k)

-- Twice C² × x − (S² × x + C × S × g) is at most N² × x, for l − 1 does not fit; and twice its negation is, for l fits
module _ (l x g : ℕ) (f : LeastFit (2 * x) g l) where
  above : C l * C l * x ≤ 3 * (S l * S l) * x + 2 * (C l * S l) * g
  unfolding C S
  above = by_size (dec_lt 1 l)
    where
      bound : (A B K M t : ℕ) → A ≤ K + B → K * t ≤ 4 * M * 2 ^ 24 → 2 * x * 2 ^ 24 ≤ t * g → A * x ≤ B * x + 2 * M * g
      bound A B K M t h e o = omega (arith, mul-le-mul_right x h, mul-le-mul_right g e, mul-le-mul_left K o)

      by_size : Dec (1 < l) → C l * C l * x ≤ 3 * (S l * S l) * x + 2 * (C l * S l) * g
      by_size (yes o) =
          bound _ _ _ (C l * S l) _ (omega arith) (above-test l f.low f.high) (le_of_lt (f.none_below (l - 1) (omega arith) (omega arith)))
      by_size (no o) = let first : l ≡ 1 = omega (arith, f.low) in rw first (omega arith)

  below : 2 * (C l * S l) * g + S l * S l * x ≤ 3 * (C l * C l) * x
  below = bound _ _ _ (C l * S l) _ (omega (arith, size-test l f.low f.high)) (below-test l f.low f.high) f.fits
    where
      bound : (A B K M t : ℕ) → K + B ≤ A → 4 * M * 2 ^ 24 ≤ K * t → t * g ≤ 2 * x * 2 ^ 24 → 2 * M * g + B * x ≤ A * x
      bound A B K M t h e o = omega (arith, mul-le-mul_right x h, mul-le-mul_right g e, mul-le-mul_left K o)

  half : 2 * apart (C l * C l * x) (S l * S l * x + C l * S l * g) ≤ (C l * C l + S l * S l) * x
  unfolding apart
  half = omega (arith, above, below)

-- 'the exactly rotated a_pq, before rounding, is at most half the old one in size'
pub halved : (n p q : ℕ) → p < q → q < n → (a : Matrix) → Symmetric n a → (l : ℕ) (minus : Bool) →
    choose (a p p) (a q q) (a p q) ≡ Some (turn_of l minus) →
    let r = rotation_of l minus in 2 * nat_abs (exactly_turned n r p q a p q) ≤ r.n * r.n * nat_abs (a p q)
unfolding rotation_of S Opposed
halved n p q o m a h l minus e =
    let rule = chosen-rule (a p p) (a q q) (a p q) l minus e in
    let sign : minus ≡ minus_sign (a p q) (a q q -ℤ a p p) = sign-unique _ _ rule.sign (sign-rule (a p q) (a q q -ℤ a p p)) in
    rw (pair-entry (rotation_of l minus) n p q o m a h, cosine l, sign, opposed (C l) (S l) (a p q) (a q q -ℤ a p p), norm l)
    (half l (nat_abs (a p q)) (nat_abs (a q q -ℤ a p p)) rule.size)
