-- The search for the smallest l that fits, a step at a time.
use mathlib.Core.Path.{◌≡◌, ap}
use mathlib.Core.Bool.{Bool, cond}
use Prim.Native.Nat.{ℕ, suc, ◌+◌, ◌-◌, ◌*◌, ◌≤◌, ◌<◌, ◌^◌}
use native.Mathlib.Nat.{mul-le-mul, lt_of_le_of_lt}
use native.Mathlib.Numerals.{add-one}
use native.Mathlib.Omega.{arith}
use lib.Dec.{lit<}
use borrow.Author.Tests.{le-leb, lt-leb}
use Rattle.choice.specs.Widest.{widest}
use Rattle.choice.specs.Threshold.{threshold, u, w}
use Rattle.integer.specs.RoundedUp.{rounded_up}
use Rattle.choice.specs.laws.Threshold.{threshold-most}
use Rattle.choice.specs.Choice.{fits, smallest_fit, turn_of}
use Rattle.std.specs.Prelude.{Some, None}

module _ (y g : ℕ) (minus : Bool) (l : ℕ) where
  opened : l ≤ 14 → smallest_fit y g minus l (15 - l) ≡ cond (fits y g l) (Some (turn_of l minus)) (smallest_fit y g minus (l + 1) (15 - (l + 1)))
  unfolding smallest_fit
  opened h = rw (left, add-one) (ap (λ n. cond (fits y g l) (Some (turn_of l minus)) (smallest_fit y g minus (suc l) n)) rest)
    where
      left : 15 - l ≡ suc (14 - l)
      left = omega arith

      rest : 14 - l ≡ 15 - suc l
      rest = omega arith

  pub found : l ≤ 14 → threshold l * g ≤ y * 2 ^ 24 → smallest_fit y g minus l (15 - l) ≡ Some (turn_of l minus)
  unfolding fits
  found h e = rw (opened h, le-leb _ _ e)

  pub passed : l ≤ 14 → y * 2 ^ 24 < threshold l * g → smallest_fit y g minus l (15 - l) ≡ smallest_fit y g minus (l + 1) (15 - (l + 1))
  unfolding fits
  passed h e = rw (opened h, lt-leb _ _ e)

  pub exhausted : l ≡ 15 → smallest_fit y g minus l (15 - l) ≡ None
  unfolding smallest_fit
  exhausted e = rw e

-- T_l × g is a word
pub product-fits : (t l g : ℕ) → t ≡ threshold l → 1 ≤ l → l ≤ 14 → g ≤ 2 * widest → t * g < 2 ^ 64
unfolding threshold rounded_up u w
product-fits t l g e h k b = rw e (lt_of_le_of_lt (mul-le-mul (threshold-most l h k) b) (lit< tt))
