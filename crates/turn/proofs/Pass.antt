-- A pass over entries of size k does not wrap, and gives entries of size `passed r k`.
use Prim.Native.Nat.{ℕ, ◌+◌, ◌*◌, ◌<◌, ◌≤◌, ◌^◌}
use native.Mathlib.Nat.{mul-le-mul_left, le_trans, le-div_iff_mul-le, div-mul-le_self}
use native.Mathlib.Omega.{arith}
use lib.IntN.{ℤ, nat_abs}
use Rattle.rounding.specs.laws.Nearest.{rnd-size}
use Rattle.turn.specs.Rotation.{first}
use Rattle.turn.specs.inner.Size.{weight, passed}
use Rattle.turn.specs.declared.pair.Rotation.{Rotation}
use Rattle.turn.proofs.Combination.{sum-size}

module _ (r : Rotation) (k : ℕ) (x y : ℤ) (hx : nat_abs x ≤ k) (hy : nat_abs y ≤ k) where
  combined : nat_abs r.c * nat_abs x + nat_abs r.s * nat_abs y ≤ weight r * k
  combined = omega (arith, mul-le-mul_left (nat_abs r.c) hx, mul-le-mul_left (nat_abs r.s) hy)

  pub room : weight r * k + r.n < 2 ^ 63 → nat_abs r.c * nat_abs x + nat_abs r.s * nat_abs y + r.n < 2 ^ 63
  room h = omega (arith, combined)

  pub first-size : 0 < r.n → nat_abs (first r x y) ≤ passed r k
  unfolding first passed
  first-size h =
      rw rnd-size
      ((le-div_iff_mul-le h).1
      (le_trans (div-mul-le_self _ r.n) (omega (arith, combined, sum-size r.c x r.s y))))
