-- A turn keeps what is kept: the matrix stays symmetric and 0 outside, and the bounds grow with m. And what is kept is small enough to turn.
use Rattle.std.specs.Prelude.{◌≡◌, refl, List, [], ◌∷◌, ℕ, suc, ◌+◌, ◌*◌, ◌≤◌, ◌<◌, ltb, length, Option, Some, None, is_some}
use Rattle.std.proofs.Math.Path.{sym}
use Rattle.std.proofs.Common.{ap, ◌∙◌, arith, lt-ltb, le-ltb}
use Rattle.std.proofs.Math.Decide.{dec_lt}
use Rattle.std.proofs.Math.Nat.{le_trans}
use Rattle.std.proofs.Math.IntN.{nat_abs}
use Rattle.integer.specs.Matrix.{squares}
use Rattle.integer.specs.laws.Matrix.{squares-cong}
use Rattle.integer.specs.Square.{sq}
use Rattle.integer.specs.laws.Square.{sq_pos, nat_abs-≤}
use Rattle.integer.specs.Sum.{sumℕ}
use Rattle.integer.specs.laws.Sum.{sumℕ-cong, sumℕ-const, term-≤-sumℕ}
use Rattle.ledger.specs.Pairs.{Pair, Each}
use Rattle.ledger.specs.Sound.{matrix_bound, axes_bound}
use Rattle.turn.specs.laws.Exact.{rotation_of-whole}
use Rattle.turn.proofs.Norm.{turned-squares, axes-column}
use Rattle.turn.specs.Rotation.{rotation_of}
use Rattle.turn.specs.Size.{Small}
use Rattle.turn.specs.inner.Size.{SymmetricRows}
use Rattle.turn.specs.laws.Symmetry.{turned-symmetric}
use Rattle.turn.specs.Turn.{at, turned, turned_axes, turn_matrix, turn_axes}
use Rattle.turn.specs.declared.pair.Rotation.{Rotation}
use Rattle.turn.specs.InUse.{in_use}
use Rattle.turn.specs.laws.InUse.{Use, at-array, in_use-inside, in_use-outside, in_use-symmetric, inside, outside, use-of}
use Rattle.choice.specs.Widest.{widest}
use Rattle.limits.specs.Limits.{turn_limit}
use Rattle.choice.specs.declared.Turn.{Turn}
use Rattle.record.specs.KeptWork.{KeptWork}
use Rattle.record.specs.Work.{chosen, work_by, work_pair, work_pairs}
use Rattle.record.specs.declared.work.Work.{Work}

-- n stays
pub same-n : (w : Work) (pair : Pair) → (work_pair w pair).n ≡ w.n
unfolding work_pair work_by
same-n w pair = by-choice (chosen w pair)
  where
    by-choice : (choice : Option Turn) → (work_by w pair choice).n ≡ w.n
    by-choice None = refl
    by-choice (Some picked) = refl

pub works-same-n : (w : Work) (pairs : List Pair) → (work_pairs w pairs).n ≡ w.n
unfolding work_pairs
works-same-n w [] = refl
works-same-n w (pair ∷ pairs) = works-same-n (work_pair w pair) pairs ∙ same-n w pair

module _ (w : Work) (pair : Pair) (b : w.n ≤ 8) (k : KeptWork w) (pq : pair.p < pair.q) (qn : pair.q < w.n) where
  keeps : (choice : Option Turn) → KeptWork (work_by w pair choice)
  unfolding work_by turn_matrix turn_axes
  keeps None = k
  keeps (Some picked) =
      record {
        symmetric = λ i j. matrix i j ∙ in_use-symmetric w.n _
            (λ i j o m. turned-symmetric r pair.p pair.q (at w.matrix) pq i j (k.symmetric i j)) i j ∙ sym (matrix j i);
        outside = λ i j e. matrix i j ∙ in_use-outside w.n _ i j e;
        axes-outside = λ i j e. axes i j ∙ in_use-outside w.n _ i j e;
        norm = rw (squares-cong w.n (λ i j h l. matrix i j ∙ in_use-inside w.n _ i j h l)) bound;
        columns = λ j. column j (dec_lt j w.n);
      }
    where
      r : Rotation
      r = rotation_of picked.l picked.minus

      matrix : (i j : ℕ) → at (turn_matrix w.n r pair.p pair.q w.matrix) i j ≡ in_use w.n (turned r pair.p pair.q (at w.matrix)) i j
      matrix i j = at-array w.n _ (at w.matrix) b k.outside i j

      axes : (i j : ℕ) → at (turn_axes w.n r pair.p pair.q w.axes) i j ≡ in_use w.n (turned_axes r pair.p pair.q (at w.axes)) i j
      axes i j = at-array w.n _ (at w.axes) b k.axes-outside i j

      bound : squares w.n (turned r pair.p pair.q (at w.matrix)) ≤ matrix_bound (suc w.m) * matrix_bound (suc w.m)
      bound =
          rw grown at
          (turned-squares r w.n pair.p pair.q pq qn (rotation_of-whole picked.l picked.minus) b (at w.matrix) (λ i j o m. k.symmetric i j)
          (matrix_bound w.m) k.norm)
        where
          grown : matrix_bound w.m + 4 ≡ matrix_bound (suc w.m)
          grown = omega arith

      column : (j : ℕ) → Dec (j < w.n) →
          sumℕ w.n (λ i. sq (at (turn_axes w.n r pair.p pair.q w.axes) i j)) ≤ axes_bound (suc w.m) * axes_bound (suc w.m)
      column j (yes h) =
          rw (sumℕ-cong w.n (λ i l. ap sq (axes i j ∙ in_use-inside w.n _ i j l h)))
          (rw grown at (axes-column r w.n pair.p pair.q pq qn (rotation_of-whole picked.l picked.minus) (at w.axes) j (axes_bound w.m) (k.columns j)))
        where
          grown : axes_bound w.m + 1 ≡ axes_bound (suc w.m)
          grown = omega arith
      column j (no h) =
          rw (
            sumℕ-cong w.n (λ i l. ap sq (axes i j ∙ in_use-outside w.n _ i j (rw (lt-ltb i w.n l, le-ltb j w.n (omega arith)))) ∙ sq_pos 0),
            sumℕ-const w.n 0,
          )
          (omega arith)

  pub work-keeps : KeptWork (work_pair w pair)
  unfolding work_pair
  work-keeps = keeps (chosen w pair)

-- the pairs of a sweep, one after the other
pub works-keep : (w : Work) (pairs : List Pair) → w.n ≤ 8 → KeptWork w → Each w.n pairs → KeptWork (work_pairs w pairs)
unfolding work_pairs Each
works-keep w [] b k all = k
works-keep w (pair ∷ pairs) b k all =
    works-keep (work_pair w pair) pairs (rw same-n b) (work-keeps w pair b k all.0.ordered all.0.within) (rw same-n all.1)

-- a pair adds at most one turn
pub work-grows : (w : Work) (pair : Pair) → (work_pair w pair).m ≤ w.m + 1
unfolding work_pair work_by
work-grows w pair = grows (chosen w pair)
  where
    grows : (choice : Option Turn) → (work_by w pair choice).m ≤ w.m + 1
    grows None = omega arith
    grows (Some picked) = omega arith

pub works-grow : (w : Work) (pairs : List Pair) → (work_pairs w pairs).m ≤ w.m + length pairs
unfolding work_pairs
works-grow w [] = omega arith
works-grow w (pair ∷ pairs) = omega (arith, works-grow (work_pair w pair) pairs, work-grows w pair)

-- and takes none away
work-least : (w : Work) (pair : Pair) → w.m ≤ (work_pair w pair).m
unfolding work_pair work_by
work-least w pair = least (chosen w pair)
  where
    least : (choice : Option Turn) → w.m ≤ (work_by w pair choice).m
    least None = omega arith
    least (Some picked) = omega arith

pub works-least : (w : Work) (pairs : List Pair) → w.m ≤ (work_pairs w pairs).m
unfolding work_pairs
works-least w [] = omega arith
works-least w (pair ∷ pairs) = omega (arith, works-least (work_pair w pair) pairs, work-least w pair)

-- m tells whether a turn was chosen
pub work-turned : (w : Work) (pair : Pair) → ltb w.m (work_pair w pair).m ≡ is_some (chosen w pair)
unfolding work_pair work_by
work-turned w pair = told (chosen w pair)
  where
    told : (choice : Option Turn) → ltb w.m (work_by w pair choice).m ≡ is_some choice
    told None = le-ltb w.m w.m (omega arith)
    told (Some picked) = lt-ltb w.m (suc w.m) (omega arith)

-- what is kept is small enough to choose and to turn
module _ (w : Work) (k : KeptWork w) (few : w.m ≤ turn_limit) where
  pub matrix-small : Small w.matrix
  unfolding squares
  matrix-small = record { small = λ i j. by-use i j (use-of w.n i j) }
    where
      by-use : (i j : ℕ) → Use w.n i j → nat_abs (at w.matrix i j) ≤ widest
      by-use i j (inside h l) =
          le_trans
          (nat_abs-≤ _ (matrix_bound w.m)
          (le_trans (term-≤-sumℕ w.n j (λ j. sq (at w.matrix i j)) l)
          (le_trans (term-≤-sumℕ w.n i (λ i. sumℕ w.n (λ j. sq (at w.matrix i j))) h) k.norm)))
          (omega arith)
      by-use i j (outside e) = rw (k.outside i j e) (omega arith)

  pub axes-small : Small w.axes
  axes-small = record { small = λ i j. by-use i j (use-of w.n i j) }
    where
      by-use : (i j : ℕ) → Use w.n i j → nat_abs (at w.axes i j) ≤ widest
      by-use i j (inside h l) =
          le_trans
          (nat_abs-≤ _ (axes_bound w.m) (le_trans (term-≤-sumℕ w.n i (λ i. sq (at w.axes i j)) h) (k.columns j)))
          (omega arith)
      by-use i j (outside e) = rw (k.axes-outside i j e) (omega arith)

  pub matrix-symmetric : SymmetricRows w.matrix
  matrix-symmetric = record { mirror = k.symmetric }
