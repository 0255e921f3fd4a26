-- The choice as `choose_turn` computes it: the difference of the diagonal entries, its sign, and the two cases.
use mathlib.Core.Path.{◌≡◌, refl}
use mathlib.Core.Bool.{beq}
use Prim.Native.Nat.{ℕ, ◌*◌, ◌≤◌}
use native.Mathlib.Omega.{arith}
use lib.IntN.{ℤ, pos, negsuc, nat_abs, neg_ℤ, ◌-ℤ◌}
use lib.Signed.{lt_z}
use borrow.Author.Tests.{ne_eqb, le-ltb}
use mir.Syntax.{w64}
use mir.Val.{SFits, to_z, of_z}
use mir.Facts.{to_z-of_z}
use Rattle.integer.specs.laws.Laws.{nat_abs-+ℤ, nat_abs-neg_ℤ, nat_abs-zero}
use Rattle.integer.specs.laws.Word.{held}
use Rattle.choice.specs.Choice.{choose, smallest_fit, negative, minus_sign}
use Rattle.choice.specs.Widest.{widest}
use Rattle.std.specs.Prelude.{None}

pub sign-test : (z : ℤ) → lt_z z (pos 0) ≡ negative z
unfolding negative
sign-test (pos n) = le-ltb n 0 (omega arith)
sign-test (negsuc n) = refl

module _ (app aqq : ℤ) (fp : SFits w64 app) (fq : SFits w64 aqq) (hp : nat_abs app ≤ widest) (hq : nat_abs aqq ≤ widest) where
  pub difference-size : nat_abs (aqq -ℤ app) ≤ 2 * widest
  difference-size = omega (arith, nat_abs-+ℤ aqq (neg_ℤ app), nat_abs-neg_ℤ app)

  pub difference-held : SFits w64 (aqq -ℤ app)
  difference-held = held _ (omega (arith, difference-size))

  pub difference : to_z w64 (of_z w64 aqq) -ℤ to_z w64 (of_z w64 app) ≡ aqq -ℤ app
  difference = rw (to_z-of_z fp, to_z-of_z fq)

  pub difference-back : to_z w64 (of_z w64 (to_z w64 (of_z w64 aqq) -ℤ to_z w64 (of_z w64 app))) ≡ aqq -ℤ app
  difference-back = rw difference (to_z-of_z difference-held)

pub none : (app aqq apq : ℤ) → apq ≡ pos 0 → None ≡ choose app aqq apq
unfolding choose
none app aqq apq e = rw e

pub some : (app aqq apq : ℤ) (y g : ℕ) (apq-zero : apq ≡ pos 0 → ⊥) → y ≡ nat_abs apq → g ≡ nat_abs (aqq -ℤ app) →
    smallest_fit (2 * y) g (beq (lt_z apq (pos 0)) (lt_z (aqq -ℤ app) (pos 0))) 1 14 ≡ choose app aqq apq
unfolding choose minus_sign
some app aqq apq y g f ey eg =
    rw (ey, eg, sign-test apq, sign-test (aqq -ℤ app), ne_eqb (nat_abs apq) 0 (λ e. f (nat_abs-zero apq e)))
