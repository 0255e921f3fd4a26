-- The rotation back: what it gives, and that it does not wrap where the rotation does not.
use mathlib.Core.Path.{◌≡◌, ap}
use Prim.Native.Nat.{ℕ}
use lib.IntN.{ℤ, neg_ℤ, ◌*ℤ◌, +ℤ_comm}
use Rattle.integer.specs.laws.Laws.{nat_abs-neg_ℤ}
use Rattle.rounding.specs.Rounding.{rnd}
use Rattle.choice.specs.Widest.{widest}
use Rattle.turn.specs.Rotation.{first, second}
use Rattle.turn.specs.inner.Rotation.{inverse}
use Rattle.turn.specs.inner.Size.{TurnFits, passed}
use Rattle.turn.specs.declared.pair.Rotation.{Rotation}

pub inverse-first : (r : Rotation) (x y : ℤ) → first (inverse r) y x ≡ second r x y
unfolding first second inverse
inverse-first r x y = ap (λ z. rnd z r.n) (+ℤ_comm (r.c *ℤ y) (neg_ℤ r.s *ℤ x))

pub inverse-turns : (r : Rotation) → TurnFits r → TurnFits (inverse r)
unfolding inverse passed
inverse-turns r t =
    record {
      positive = t.positive;
      first-pass = rw nat_abs-neg_ℤ t.first-pass;
      second-pass = rw nat_abs-neg_ℤ t.second-pass;
    }

inverse-passed : (r : Rotation) (k : ℕ) → passed (inverse r) k ≡ passed r k
unfolding inverse passed
inverse-passed r k = rw nat_abs-neg_ℤ

-- a rotation and the rotation back, and what each asks of the other's passes
pub record Back (r back : Rotation) : Type 0 where
  pub turns : TurnFits back
  pub same : passed back widest ≡ passed r widest

pub back-of : (r back : Rotation) → TurnFits r → back ≡ inverse r → Back r back
back-of r back t e = rw e (record { turns = inverse-turns r t; same = inverse-passed r widest })
