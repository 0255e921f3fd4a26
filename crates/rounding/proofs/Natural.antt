-- The laws of rnd for a u that is not negative.
use mathlib.Core.Path.{◌≡◌}
use Prim.Native.Nat.{ℕ, ◌<◌}
use lib.IntN.{ℤ, pos}
use Rattle.rounding.specs.Rounding.{rnd}
use Rattle.rounding.specs.laws.Nearest.{Nearest, rnd-nearest, nearest-unique}

pub rnd-nearest-pos : (u w : ℕ) → 0 < w → Nearest (pos u) w (rnd (pos u) w)
rnd-nearest-pos u w h = rnd-nearest (pos u) w h

pub nearest-unique-pos : (u w : ℕ) (z : ℤ) → 0 < w → Nearest (pos u) w z → z ≡ rnd (pos u) w
nearest-unique-pos u w z h n = nearest-unique (pos u) w z h n
