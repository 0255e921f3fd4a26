-- What holds of the matrix and axes that every load leaves, and every turn.
use Rattle.std.specs.Prelude.{◌≡◌, false, ◌&&◌, ℕ, ◌*◌, ◌≤◌, ltb, pos}
use Rattle.integer.specs.Matrix.{squares}
use Rattle.integer.specs.Square.{sq}
use Rattle.integer.specs.Sum.{sumℕ}
use Rattle.ledger.specs.Sound.{matrix_bound, axes_bound}
use Rattle.turn.specs.Turn.{at}
use Rattle.record.specs.declared.work.Work.{Work}

-- the kept matrix is symmetric, matrix and axes are 0 outside the n by n entries in use, and the squares are bounded: of the matrix by (8 × 2^31
-- + 4m)², of a column of the axes by (2^30 + m)²
pub record KeptWork (w : Work) : Type 0 where
  pub symmetric : (i j : ℕ) → at w.matrix i j ≡ at w.matrix j i
  pub outside : (i j : ℕ) → (ltb i w.n && ltb j w.n) ≡ false → at w.matrix i j ≡ pos 0
  pub axes-outside : (i j : ℕ) → (ltb i w.n && ltb j w.n) ≡ false → at w.axes i j ≡ pos 0
  pub norm : squares w.n (at w.matrix) ≤ matrix_bound w.m * matrix_bound w.m
  pub columns : (j : ℕ) → sumℕ w.n (λ i. sq (at w.axes i j)) ≤ axes_bound w.m * axes_bound w.m
