-- Laws of the thresholds: the rule of the table, and the largest.
use Rattle.std.specs.Prelude.{◌≡◌, Bool, ℕ, suc, ◌-◌, ◌*◌, ◌≤◌, ◌^◌, T, leb, ltb}
use Rattle.std.proofs.Common.{subst, arith, leb→le, ltb→lt}
use Rattle.integer.specs.Range.{all}
use Rattle.integer.specs.laws.Range.{below}
use Rattle.integer.specs.laws.RoundedUp.{RoundedUp, rounded_up-rule}
use Rattle.choice.specs.Threshold.{u, w, threshold}
use Rattle.integer.specs.RoundedUp.{rounded_up}

-- A test at each l from 1 to 14
pub from-1-to-14 : (f : ℕ → Bool) → T (all (λ k. f (suc k)) 14) → (l : ℕ) → 1 ≤ l → l ≤ 14 → T (f l)
from-1-to-14 f t l h k = subst (λ m. T (f m)) same (below (λ k. f (suc k)) 14 t (l - 1) (omega arith))
  where
    same : suc (l - 1) ≡ l
    same = omega arith

-- The rule of the table: T_l is the least whole number that is not below 2^24 × 2uw / (u² − w²)
pub threshold-rule : (l : ℕ) → 1 ≤ l → l ≤ 14 → RoundedUp (2 ^ 24 * (2 * u l * w l)) (u l * u l - w l * w l) (threshold l)
unfolding threshold u w
threshold-rule l h k =
    rounded_up-rule _ _ (ltb→lt _ _ (from-1-to-14 (λ m. ltb 0 (u m * u m - w m * w m)) tt l h k))

-- T_1 is the largest
pub threshold-most : (l : ℕ) → 1 ≤ l → l ≤ 14 → threshold l ≤ threshold 1
unfolding threshold rounded_up u w
threshold-most l h k = leb→le _ _ (from-1-to-14 (λ m. leb (threshold m) (threshold 1)) tt l h k)
