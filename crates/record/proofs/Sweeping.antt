-- A sweep, pair by pair: the work so far, and the pairs that are left.
use mathlib.Core.Path.{◌≡◌, refl, ◌∙◌}
use mathlib.Core.List.{List, [], ◌∷◌}
use Prim.Native.Nat.{◌+◌, ◌≤◌, ◌<◌}
use native.Mathlib.Omega.{arith}
use lib.ListN.{length}
use Rattle.ledger.specs.Pairs.{Pair}
use Rattle.turn.specs.laws.Eight.{shaped-square}
use Rattle.turn.specs.Shape.{Shaped}
use Rattle.turn.specs.Turn.{array, turn_axes, turn_matrix}
use Rattle.choice.specs.declared.Turn.{Turn}
use Rattle.std.specs.Prelude.{Option, Some, None}
use Rattle.record.specs.KeptWork.{KeptWork}
use Rattle.record.specs.laws.Turning.{same-n, work-grows, work-keeps}
use Rattle.record.specs.Work.{chosen, work_by, work_pair, work_pairs}
use Rattle.record.specs.declared.work.Work.{Work}

-- after a turn the rows have their shape, as before it
module _ (w : Work) (pair : Pair) (matrix : Shaped w.matrix) (axes : Shaped w.axes) where
  by-shaped : (choice : Option Turn) → Shaped (work_by w pair choice).matrix × Shaped (work_by w pair choice).axes
  unfolding work_by turn_matrix turn_axes array
  by-shaped None = (matrix, axes)
  by-shaped (Some picked) = (shaped-square _, shaped-square _)

  pub pair-shaped : Shaped (work_pair w pair).matrix × Shaped (work_pair w pair).axes
  unfolding work_pair
  pair-shaped = by-shaped (chosen w pair)

-- from the work w₀ with the pairs₀ left, the work w with the pairs left
pub record Sweeping (w₀ : Work) (pairs₀ : List Pair) (w : Work) (pairs : List Pair) : Type 0 where
  pub same : work_pairs w pairs ≡ work_pairs w₀ pairs₀
  pub size : w.n ≡ w₀.n
  pub kept : KeptWork w
  pub few : w.m + length pairs ≤ w₀.m + length pairs₀
  pub matrix : Shaped w.matrix
  pub axes : Shaped w.axes

pub started : (w : Work) (pairs : List Pair) → KeptWork w → Shaped w.matrix → Shaped w.axes → Sweeping w pairs w pairs
started w pairs k a v = record { same = refl; size = refl; kept = k; few = omega arith; matrix = a; axes = v }

pub then : {w₀ w₁ w₂ : Work} {pairs₀ pairs₁ pairs₂ : List Pair} → Sweeping w₀ pairs₀ w₁ pairs₁ → Sweeping w₁ pairs₁ w₂ pairs₂ →
    Sweeping w₀ pairs₀ w₂ pairs₂
then s t =
    record {
      same = t.same ∙ s.same;
      size = t.size ∙ s.size;
      kept = t.kept;
      few = omega (arith, s.few, t.few);
      matrix = t.matrix;
      axes = t.axes;
    }

module _ (w₀ w : Work) (pairs₀ : List Pair) (pair : Pair) (pairs : List Pair) where
  pub one_more : (w' : Work) → Sweeping w₀ pairs₀ w (pair ∷ pairs) → w' ≡ work_pair w pair → pair.p < pair.q → pair.q < w.n → w.n ≤ 8 →
      Sweeping w₀ pairs₀ w' pairs
  unfolding work_pairs
  one_more w' s e h k b =
      rw e
      (record {
        same = s.same;
        size = same-n w pair ∙ s.size;
        kept = work-keeps w pair b s.kept h k;
        few = omega (arith, s.few, work-grows w pair);
        matrix = (pair-shaped w pair s.matrix s.axes).0;
        axes = (pair-shaped w pair s.matrix s.axes).1;
      })

pub ended : (w₀ w : Work) (pairs₀ : List Pair) → Sweeping w₀ pairs₀ w [] → w ≡ work_pairs w₀ pairs₀
unfolding work_pairs
ended w₀ w pairs₀ s = s.same
