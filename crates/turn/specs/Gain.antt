-- Document 02, W11: how much a turn gains. Everything is in whole numbers, multiplied by what clears the denominators, N² or N⁴.
use Rattle.std.specs.Prelude.{◌≡◌, Bool, cond, ℕ, ◌+◌, ◌*◌, ◌<◌, ◌≤◌, eqb, nat_abs, Some}
use Rattle.integer.specs.Matrix.{Matrix, Symmetric, conjugate}
use Rattle.integer.specs.Square.{sq}
use Rattle.integer.specs.Sum.{sumℕ}
use Rattle.choice.specs.Choice.{choose, turn_of}
use Rattle.turn.specs.Exact.{exact}
use Rattle.turn.specs.Rotation.{rotation_of}
use Rattle.turn.specs.Turn.{turned}
use Rattle.turn.specs.declared.pair.Rotation.{Rotation}

-- the sum of the squared off-diagonal entries, of n by n entries
unfoldable pub off_diagonal : ℕ → Matrix → ℕ
off_diagonal n X = sumℕ n (λ i. sumℕ n (λ j. cond (eqb j i) 0 (sq (X i j))))

-- the exactly rotated matrix, before rounding, times N²: R A Rᵀ, where R is N times the exact rotation
abbrev pub exactly_turned : ℕ → Rotation → ℕ → ℕ → Matrix → Matrix
exactly_turned n r p q a = conjugate n (exact r p q) a

-- what the turn of the n by n matrix a on the pair p, q by r gains
pub record Gains (n : ℕ) (r : Rotation) (p q : ℕ) (a : Matrix) : Type 0 where
  -- 'the exactly rotated a_pq, before rounding, is at most half the old one in size', times 2N²
  pub half : 2 * nat_abs (exactly_turned n r p q a p q) ≤ r.n * r.n * nat_abs (a p q)
  -- 'The exact sum of squared off-diagonal entries falls by twice the difference of the old and new squares of a_pq', times N⁴
  pub fall : off_diagonal n (exactly_turned n r p q a) + 2 * (r.n * r.n * (r.n * r.n) * sq (a p q)) ≡
      r.n * r.n * (r.n * r.n) * off_diagonal n a + 2 * sq (exactly_turned n r p q a p q)
  -- 'The kept a_pq is, in size, at most half the old plus 5/4 unit', times 4
  pub kept : 4 * nat_abs (turned r p q a p q) ≤ 2 * nat_abs (a p q) + 5

-- 'For every pair where the choice rule picks a turn', of every symmetric matrix of whole numbers
abbrev pub Turns-gain : Type 0
Turns-gain =
    (n p q : ℕ) → p < q → q < n → (a : Matrix) → Symmetric n a → (l : ℕ) (minus : Bool) → choose (a p p) (a q q) (a p q) ≡ Some (turn_of l minus) →
    Gains n (rotation_of l minus) p q a
