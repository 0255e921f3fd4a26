-- The laws of the shift under a limit: e is the smallest e ≥ 0 with every |S_ij| ≤ limit × 2^e, and the only such number.
use Rattle.std.specs.Prelude.{◌≡◌, Bool, List, [], ◌∷◌, leb, ℤ, pos, length, get_or}
use Rattle.std.proofs.Math.Path.{refl}
use Rattle.std.proofs.Common.{sym, ◌∙◌, zero-add, add-suc, suc-add, le_refl, mul-le-mul, pow_mono}
use Rattle.std.proofs.Math.Bool.{true, false}
use Prim.Native.Nat.{ℕ, zero, suc, ◌+◌, ◌*◌, ◌^◌, ◌<◌, ◌≤◌}
use Rattle.std.proofs.Math.Nat.{two-pow-succ, le-max_left, le-max_right, max-le, max-eq_left, max-eq_right, le_trans, add-zero}
use Rattle.std.proofs.Math.Decide.{dec_lt}
use native.Mathlib.Omega.{arith}
use borrow.Author.Count.{below_more}
use borrow.Author.Tests.{leb-true, leb-false}
use Rattle.std.proofs.Math.IntN.{nat_abs}
use Rattle.std.proofs.Math.ListN.{get_or-eq_default}
use Rattle.limits.specs.Limits.{former_entry_limit}
use Rattle.scatter.specs.Table.{largest, smallest_shift, shift_under}
use Rattle.scatter.specs.inner.Shift.{LeastShift}

pub largest-bounds : (us : List ℤ) (p : ℕ) → nat_abs (get_or us p (pos 0)) ≤ largest us
unfolding largest
largest-bounds [] p = omega arith
largest-bounds (u ∷ us) zero = le-max_left (nat_abs u) (largest us)
largest-bounds (u ∷ us) (suc p) = le_trans (largest-bounds us p) (le-max_right (nat_abs u) (largest us))

pub largest-least : (us : List ℤ) (m : ℕ) → ((p : ℕ) → nat_abs (get_or us p (pos 0)) ≤ m) → largest us ≤ m
unfolding largest
largest-least [] m h = omega arith
largest-least (u ∷ us) m h = max-le (h zero) (largest-least us m (λ p. h (suc p)))

-- one of them has it
pub largest-attained : (us : List ℤ) → 0 < length us → (p : ℕ) × (p < length us) × (nat_abs (get_or us p (pos 0)) ≡ largest us)
unfolding largest
largest-attained [] h = absurd (omega arith)
largest-attained (u ∷ []) h = (0, omega arith, omega arith)
largest-attained (u ∷ v ∷ us) h = by (largest-attained (v ∷ us) (omega arith)) (dec_lt (nat_abs u) (largest (v ∷ us)))
  where
    by : (p : ℕ) × (p < length (v ∷ us)) × (nat_abs (get_or (v ∷ us) p (pos 0)) ≡ largest (v ∷ us)) → Dec (nat_abs u < largest (v ∷ us)) →
        (p : ℕ) × (p < length (u ∷ v ∷ us)) × (nat_abs (get_or (u ∷ v ∷ us) p (pos 0)) ≡ largest (u ∷ v ∷ us))
    by (p, b, e) (yes l) = (suc p, omega arith, e ∙ sym (max-eq_right (omega arith)))
    by w (no l) = (0, omega arith, sym (max-eq_left (omega arith)))

-- the greatest |u|, found among the places of a list
pub largest-is : (us : List ℤ) (m : ℕ) → m ≤ largest us → ((p : ℕ) → p < length us → nat_abs (get_or us p (pos 0)) ≤ m) → m ≡ largest us
largest-is us m h g = omega (arith, largest-least us m (λ p. every p (dec_lt p (length us))))
  where
    every : (p : ℕ) → Dec (p < length us) → nat_abs (get_or us p (pos 0)) ≤ m
    every p (yes i) = g p i
    every p (no i) = rw (get_or-eq_default us (pos 0) {n = p} (omega arith)) (omega arith)

below-pow : (m : ℕ) → m < 2 ^ m
below-pow zero = omega arith
below-pow (suc m) = rw two-pow-succ (omega (arith, below-pow m))

-- 'the smallest e ≥ 0 with every |S_ij| ≤ 1,048,576 × 2^e', with any limit for that one
pub record IsShift (limit : ℕ) (us : List ℤ) (e : ℕ) : Type 0 where
  pub within : (p : ℕ) → nat_abs (get_or us p (pos 0)) ≤ limit * 2 ^ e
  pub least : (d : ℕ) → ((p : ℕ) → nat_abs (get_or us p (pos 0)) ≤ limit * 2 ^ d) → e ≤ d

module _ {limit : ℕ} where
  pub smallest-unique : {m d e : ℕ} → LeastShift limit m d → LeastShift limit m e → d ≡ e
  smallest-unique {m} {d} {e} a b = go (dec_lt d e) (dec_lt e d)
    where
      go : Dec (d < e) → Dec (e < d) → d ≡ e
      go (yes h) q = absurd (omega (arith, b.least d h, a.enough))
      go (no f) (yes h) = absurd (omega (arith, a.least e h, b.enough))
      go (no f) (no g) = omega arith

  searched : (m tries e : ℕ) (enough : Bool) → leb m (limit * 2 ^ e) ≡ enough → m ≤ limit * 2 ^ (e + tries) →
      ((d : ℕ) → d < e → limit * 2 ^ d < m) → LeastShift limit m (smallest_shift limit tries enough m e)
  unfolding smallest_shift
  searched m zero e enough t h l = record { enough = rw add-zero at h; least = l }
  searched m (suc tries) e true t h l = record { enough = leb-true _ _ t; least = l }
  searched m (suc tries) e false t h l =
      searched m tries (suc e) _ refl (rw (add-suc, ← suc-add) at h)
      (λ d b. below_more (λ d. limit * 2 ^ d < m) e l (leb-false _ _ t) d (omega arith))

  -- a limit of 1 or more, since 0 × 2^e is 0
  module _ (some : 1 ≤ limit) where
    pub smallest-found : (m : ℕ) → LeastShift limit m (smallest_shift limit m (leb m (limit * 2 ^ 0)) m 0)
    smallest-found m = searched m m 0 _ refl (rw zero-add enough) (λ d h. absurd (omega arith))
      where
        enough : m ≤ limit * 2 ^ m
        enough = omega (arith, below-pow m, mul-le-mul {n₁ = 1} {m₁ = 2 ^ m} {n₂ = limit} {m₂ = 2 ^ m} some (le_refl (2 ^ m)))

    pub shift-smallest : (us : List ℤ) → IsShift limit us (shift_under limit us)
    unfolding shift_under
    shift-smallest us =
        record {
          within = λ p. le_trans (largest-bounds us p) (smallest-found (largest us)).enough;
          least = λ d h. by d h (dec_lt d (shift_under limit us));
        }
      where
        by : (d : ℕ) → ((p : ℕ) → nat_abs (get_or us p (pos 0)) ≤ limit * 2 ^ d) → Dec (d < shift_under limit us) → shift_under limit us ≤ d
        by d h (yes b) = absurd (omega (arith, (smallest-found (largest us)).least d b, largest-least us (limit * 2 ^ d) h))
        by d h (no b) = omega arith

    pub shift_is : (us : List ℤ) (e : ℕ) → LeastShift limit (largest us) e → e ≡ shift_under limit us
    unfolding shift_under
    shift_is us e s = smallest-unique s (smallest-found (largest us))

    -- and no other number is
    pub shift-unique : (us : List ℤ) (e : ℕ) → IsShift limit us e → e ≡ shift_under limit us
    shift-unique us e s =
        omega (arith, s.least (shift_under limit us) (shift-smallest us).within, (shift-smallest us).least e s.within)

-- shifts of numbers below 2^62, under a limit that is not below the former one
module _ {limit : ℕ} (old : former_entry_limit ≤ limit) where
  pub below-limit : {m e : ℕ} → limit * 2 ^ e < m → m < 2 ^ 62 → e < 42
  below-limit {m} {e} g h = go (dec_lt e 42)
    where
      go : Dec (e < 42) → e < 42
      go (yes i) = i
      go (no i) =
          absurd
          (omega (arith, mul-le-mul {n₁ = former_entry_limit} {m₁ = 2 ^ 42} {n₂ = limit} {m₂ = 2 ^ e} old (pow_mono {i = 42} {j = e} (omega arith))))

  pub shift_small : (m e : ℕ) → LeastShift limit m e → m < 2 ^ 62 → e < 43
  shift_small m zero s h = omega arith
  shift_small m (suc e) s h = omega (arith, below-limit {e = e} (s.least e (omega arith)) h)
