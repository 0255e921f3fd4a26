-- Blocks of two channels: a turn that gains, and turns that `half` and `kept` of `Gains` each rule out.
use Rattle.std.specs.Prelude.{◌≡◌, refl, true, false, cond, ℕ, ◌+◌, ◌≤◌, eqb, pos, Some}
use Rattle.std.proofs.Common.{arith}
use Rattle.integer.specs.Dot.{dot}
use Rattle.integer.specs.Matrix.{Matrix, conjugate, diagonal, product}
use Rattle.integer.specs.RoundedUp.{rounded_up}
use Rattle.integer.specs.Signed.{signed}
use Rattle.integer.specs.Sum.{sum}
use Rattle.rounding.specs.Rounding.{rnd}
use Rattle.choice.specs.Choice.{choose, fits, minus_sign, negative, smallest_fit, turn_of}
use Rattle.choice.specs.Threshold.{threshold, u, w}
use Rattle.turn.specs.Exact.{exact}
use Rattle.turn.specs.Gain.{Gains}
use Rattle.turn.specs.Rotation.{first, rotation_of, second}
use Rattle.turn.specs.Turn.{at_pair, hpp, hpq, newp, newpq, turned}

-- a_pp = 0, a_pq = a_qp = x and a_qq = y
abbrev pub block : ℕ → ℕ → Matrix
block x y i j = cond (eqb (i + j) 0) (pos 0) (cond (eqb (i + j) 1) (pos x) (pos y))

-- 26/25 of half of a_pq = 2 is left: 'at most half' rules it out
pub not-over-half : Gains 2 (rotation_of 1 true) 0 1 (block 2 1) → ⊥
unfolding conjugate product dot sum exact at_pair rotation_of signed diagonal
not-over-half g = let above : 52 ≤ 50 = g.half in omega (arith, above)

-- 2 is kept of a_pq = 1: 'at most half the old plus 5/4 unit' rules it out
pub not-six-quarters : Gains 2 (rotation_of 2 false) 0 1 (block 1 3) → ⊥
unfolding turned newp newpq hpp hpq first second rnd at_pair rotation_of signed
not-six-quarters g = let above : 8 ≤ 7 = g.kept in omega (arith, above)

-- the choice rule picks a turn of this block, and it gains: 41/289 of a_pq is left
pub picked : choose (block 1 1 0 0) (block 1 1 1 1) (block 1 1 0 1) ≡ Some (turn_of 2 true)
unfolding choose smallest_fit fits threshold rounded_up u w minus_sign negative
picked = refl
