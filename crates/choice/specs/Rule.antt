-- Document 01, 'Choosing a turn', as a rule: what holds of the choice of a pair. That it holds of `choose` and of no other choice is laws/Smallest.
use Rattle.std.specs.Prelude.{◌≡◌, ◌≢◌, Bool, true, false, ℕ, ◌*◌, ◌<◌, ◌≤◌, ◌^◌, ℤ, pos, nat_abs, ◌-ℤ◌, ◌<ℤ◌, Option, Some, None}
use Rattle.choice.specs.Threshold.{threshold}
use Rattle.choice.specs.Choice.{turn_of}
use Rattle.choice.specs.declared.Turn.{Turn}

-- 'y × 2^24 ≥ T_l × g', and that it is not so
abbrev pub Fits : ℕ → ℕ → ℕ → Type 0
Fits y g l = threshold l * g ≤ y * 2 ^ 24

abbrev pub Fails : ℕ → ℕ → ℕ → Type 0
Fails y g l = y * 2 ^ 24 < threshold l * g

-- 'l is the smallest from 1 to 14 with y × 2^24 ≥ T_l × g'
pub record LeastFit (y g l : ℕ) : Type 0 where
  pub low : 1 ≤ l
  pub high : l ≤ 14
  pub fits : Fits y g l
  pub none_below : (k : ℕ) → 1 ≤ k → k < l → Fails y g k

-- 'exactly one of a_pq and a_qq − a_pp is negative'
pub data OneNegative (apq difference : ℤ) : Type 0 where
  only-first : apq <ℤ pos 0 → ¬ (difference <ℤ pos 0) → OneNegative apq difference
  only-second : ¬ (apq <ℤ pos 0) → difference <ℤ pos 0 → OneNegative apq difference

-- 'The sign f is +1 if exactly one of a_pq and a_qq − a_pp is negative, else −1': of whether f is −1
pub record SignOf (apq difference : ℤ) (minus : Bool) : Type 0 where
  pub plus_one : OneNegative apq difference → minus ≡ false
  pub minus_one : ¬ (OneNegative apq difference) → minus ≡ true

-- of a pair's l and sign f, with y = 2×|a_pq| and g = |a_qq − a_pp|
pub record Chosen (app aqq apq : ℤ) (l : ℕ) (minus : Bool) : Type 0 where
  pub not-zero : apq ≢ pos 0
  pub size : LeastFit (2 * nat_abs apq) (nat_abs (aqq -ℤ app)) l
  pub sign : SignOf apq (aqq -ℤ app) minus

pub data Chooses (app aqq apq : ℤ) : Option Turn → Type 0 where
  -- 'a_pq = 0: no turn'
  zero-entry : apq ≡ pos 0 → Chooses app aqq apq None
  -- 'Otherwise l is the smallest from 1 to 14 ..', 'The sign f is ..'
  a_turn : {l : ℕ} {minus : Bool} → Chosen app aqq apq l minus → Chooses app aqq apq (Some (turn_of l minus))
  -- 'If none fits, no turn'
  none-fits : ((l : ℕ) → 1 ≤ l → l ≤ 14 → Fails (2 * nat_abs apq) (nat_abs (aqq -ℤ app)) l) → Chooses app aqq apq None
