-- The test values lie in the ranges that choice and turn take: values up to their most, matrices small and symmetric.
use Rattle.std.specs.Prelude.{◌≡◌, refl, Bool, true, false, ℕ, ◌+◌, ◌-◌, ◌*◌, ◌/◌, ◌%◌, ◌<◌, ◌≤◌, ◌^◌, eqb, ltb, ℤ, pos, nat_abs}
use Rattle.std.proofs.Common.{sym, ap, ◌∙◌, mod-lt, arith, ltb→lt}
use Rattle.std.proofs.Math.Nat.{add_right_comm}
use Rattle.std.proofs.Math.Decide.{dec_lt}
use Rattle.integer.specs.laws.Tests.{cond-≤}
use Rattle.integer.specs.laws.Laws.{nat_abs-neg_ℤ}
use Rattle.integer.specs.Signed.{signed}
use Rattle.turn.specs.Turn.{at, square}
use Rattle.turn.specs.laws.Eight.{at-eight, at-outside}
use Rattle.turn.specs.Size.{Small}
use Rattle.turn.specs.inner.Size.{SymmetricRows}
use Rattle.choice.specs.Threshold.{threshold, u, w}
use Rattle.integer.specs.RoundedUp.{rounded_up}
use Rattle.choice.specs.laws.Threshold.{from-1-to-14}
use Rattle.choice.specs.Widest.{widest}
use Rattle.test_turns.specs.Generator.{size_from, value_of, offset, row_of, matrix_of, axes_of}

pub size_from-most : (wide mode most : ℕ) → 3 ≤ most → size_from wide mode most ≤ most
unfolding size_from
size_from-most wide mode most h =
    cond-≤ (eqb (mode % 4) 0) {x = wide % 4} (omega arith)
    (cond-≤ (eqb (mode % 4) 1) {x = most - wide % 4} (omega arith)
    (cond-≤ (eqb (mode % 4) 2) {x = wide % (most + 1)} (below wide) (below (wide / 2 ^ (mode / 4 % 62)))))
  where
    below : (x : ℕ) → x % (most + 1) ≤ most
    below x = omega (arith, mod-lt x {m = most + 1} (omega arith))

pub signed-size : (b : Bool) (x : ℕ) → nat_abs (signed b x) ≡ x
unfolding signed
signed-size true x = nat_abs-neg_ℤ (pos x)
signed-size false x = refl

pub value_of-most : (k most : ℕ) → 3 ≤ most → nat_abs (value_of k most) ≤ most
unfolding value_of
value_of-most k most h = rw signed-size (size_from-most _ _ most h)

pub threshold-positive : (l : ℕ) → 1 ≤ l → l ≤ 14 → 0 < threshold l
unfolding threshold rounded_up u w
threshold-positive l h k = ltb→lt _ _ (from-1-to-14 (λ m. ltb 0 (threshold m)) tt l h k)

-- an 8 by 8 array of given entries
module _ (f : ℕ → ℕ → ℤ) where
  inside : (n : ℕ) → ((i j : ℕ) → nat_abs (f i j) ≤ n) → (i j : ℕ) → nat_abs (at (square f) i j) ≤ n
  inside n h i j = cases (dec_lt i 8) (dec_lt j 8)
    where
      cases : Dec (i < 8) → Dec (j < 8) → nat_abs (at (square f) i j) ≤ n
      cases (yes a) (yes b) = rw (at-eight f i j a b) (h i j)
      cases (yes a) (no b) = rw (at-outside f i j (λ c d. b d)) (omega arith)
      cases (no a) b = rw (at-outside f i j (λ c d. a c)) (omega arith)

  mirrored : ((i j : ℕ) → f i j ≡ f j i) → (i j : ℕ) → at (square f) i j ≡ at (square f) j i
  mirrored h i j = cases (dec_lt i 8) (dec_lt j 8)
    where
      cases : Dec (i < 8) → Dec (j < 8) → at (square f) i j ≡ at (square f) j i
      cases (yes a) (yes b) = at-eight f i j a b ∙ h i j ∙ sym (at-eight f j i b a)
      cases (yes a) (no b) = at-outside f i j (λ c d. b d) ∙ sym (at-outside f j i (λ c d. b c))
      cases (no a) b = at-outside f i j (λ c d. a c) ∙ sym (at-outside f j i (λ c d. a d))

pub matrix_of-small : (base : ℕ) → Small (matrix_of base)
unfolding matrix_of row_of
matrix_of-small base =
    record { small = inside (λ i j. value_of (base + offset i + offset j) widest) widest (λ i j. value_of-most _ widest (omega arith)) }

pub matrix_of-symmetric : (base : ℕ) → SymmetricRows (matrix_of base)
unfolding matrix_of row_of
matrix_of-symmetric base =
    record {
      mirror = mirrored (λ i j. value_of (base + offset i + offset j) widest)
          (λ i j. ap (λ k. value_of k widest) (add_right_comm base (offset i) (offset j)));
    }

pub axes_of-small : (base : ℕ) → Small (axes_of base)
unfolding axes_of row_of
axes_of-small base =
    record {
      small = λ i j. omega (
        arith,
        inside (λ i j. value_of (base + 64 * (i + 1) + offset j) (2 ^ 30 + 448)) (2 ^ 30 + 448)
            (λ i j. value_of-most _ (2 ^ 30 + 448) (omega arith)) i j,
      );
    }
