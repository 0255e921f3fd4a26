-- The combination a×x + b×y of machine words, each step read back from its bits.
use mathlib.Core.Path.{◌≡◌}
use Prim.Native.Nat.{◌+◌, ◌*◌, ◌<◌, ◌≤◌, ◌^◌}
use native.Mathlib.Omega.{arith}
use lib.IntN.{ℤ, nat_abs, ◌+ℤ◌, ◌*ℤ◌}
use mir.Syntax.{w64}
use mir.Val.{SFits, to_z, of_z}
use mir.Facts.{to_z-of_z}
use Rattle.integer.specs.laws.Laws.{nat_abs-*ℤ, nat_abs-+ℤ}
use Rattle.integer.specs.laws.Word.{held}

pub product : (a x : ℤ) → SFits w64 a → SFits w64 x → to_z w64 (of_z w64 a) *ℤ to_z w64 (of_z w64 x) ≡ a *ℤ x
product a x f g = rw (to_z-of_z f, to_z-of_z g)

pub product-held : (a x : ℤ) → nat_abs a * nat_abs x < 2 ^ 63 → SFits w64 (a *ℤ x)
product-held a x h = held (a *ℤ x) (rw nat_abs-*ℤ h)

pub sum-size : (a x b y : ℤ) → nat_abs (a *ℤ x +ℤ b *ℤ y) ≤ nat_abs a * nat_abs x + nat_abs b * nat_abs y
sum-size a x b y = simp nat_abs-*ℤ at (nat_abs-+ℤ (a *ℤ x) (b *ℤ y))

-- a, x, b and y are words, and their combination is one too
pub record Words (a x b y : ℤ) : Type 0 where
  pub a-held : SFits w64 a
  pub x-held : SFits w64 x
  pub b-held : SFits w64 b
  pub y-held : SFits w64 y
  pub room : nat_abs a * nat_abs x + nat_abs b * nat_abs y < 2 ^ 63

module _ (a x b y : ℤ) (h : Words a x b y) where
  pub sum : to_z w64 (of_z w64 (to_z w64 (of_z w64 a) *ℤ to_z w64 (of_z w64 x))) +ℤ to_z w64
      (of_z w64 (to_z w64 (of_z w64 b) *ℤ to_z w64 (of_z w64 y))) ≡ a *ℤ x +ℤ b *ℤ y
  sum =
      rw (
        product a x h.a-held h.x-held,
        product b y h.b-held h.y-held,
        to_z-of_z (product-held a x (omega arith)),
        to_z-of_z (product-held b y (omega arith)),
      )

  pub sum-held : SFits w64 (a *ℤ x +ℤ b *ℤ y)
  sum-held = held (a *ℤ x +ℤ b *ℤ y) (omega (arith, sum-size a x b y))
