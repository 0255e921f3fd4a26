-- A turn that the choice rule picks gains what document 02, W11, says.
use Rattle.std.specs.Prelude.{ℕ, ◌+◌, ◌*◌, ◌<◌, ◌≤◌, ℤ, pos, nat_abs, ◌-ℤ◌, ◌*ℤ◌}
use Rattle.std.proofs.Common.{mul-le-mul, arith}
use Rattle.std.proofs.Math.Nat.{le_of_mul-le-mul_left}
use Rattle.std.proofs.Math.IntN
use Rattle.integer.specs.laws.Laws.{nat_abs-+ℤ, nat_abs-*ℤ}
use Rattle.integer.specs.Matrix.{Matrix}
use Rattle.integer.specs.Square.{sq}
use Rattle.integer.specs.laws.Square.{le-of-squares}
use Rattle.turn.proofs.Error.{pair-error}
use Rattle.turn.specs.laws.Exact.{Whole, rotation_of-whole}
use Rattle.turn.specs.Gain.{exactly_turned, Turns-gain}
use Rattle.turn.specs.Rotation.{rotation_of}
use Rattle.turn.specs.Turn.{turned}
use Rattle.turn.specs.laws.Half.{halved}
use Rattle.turn.specs.laws.OffDiagonal.{off-diagonal-falls}
use Rattle.turn.specs.declared.pair.Rotation.{Rotation}

-- What is within √6/2 of z / K, where z / K is at most x / 2 in size: √6/2 is less than 5/4
within : (K x : ℕ) (y z : ℤ) → 0 < K → 4 * sq (pos K *ℤ y -ℤ z) ≤ 6 * (K * K) → 2 * nat_abs z ≤ K * x → 4 * nat_abs y ≤ 2 * x + 5
unfolding sq
within K x y z o error half = le_of_mul-le-mul_left {k = K} (omega (arith, triangle, error-size)) o
  where
    E : ℕ
    E = nat_abs (pos K *ℤ y -ℤ z)

    -- 16E² ≤ 24K²
    error-size : 4 * E ≤ 5 * K
    error-size = le-of-squares (4 * E) (5 * K) (omega arith)

    triangle : K * nat_abs y ≤ E + nat_abs z
    triangle = rw (IntN.-ℤ-+ℤ_cancel (pos K *ℤ y) z, nat_abs-*ℤ (pos K) y) at (nat_abs-+ℤ (pos K *ℤ y -ℤ z) z)

pub gains : Turns-gain
gains n p q o m a h l minus e = record {
  half = exact-half;
  fall = off-diagonal-falls r n p q o m whole a h;
  kept = within (r.n * r.n) (nat_abs (a p q)) (turned r p q a p q) (C p q) positive (pair-error r n p q o m whole a h) exact-half;
}
  where
    r : Rotation
    r = rotation_of l minus

    whole : Whole r
    whole = rotation_of-whole l minus

    C : Matrix
    C = exactly_turned n r p q a

    positive : 0 < r.n * r.n
    positive = omega (arith, mul-le-mul whole.positive whole.positive)

    exact-half : 2 * nat_abs (C p q) ≤ r.n * r.n * nat_abs (a p q)
    exact-half = halved n p q o m a h l minus e
