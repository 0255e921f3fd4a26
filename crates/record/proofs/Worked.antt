-- A pair at work: what a choice makes of it.
use mathlib.Core.Path.{◌≡◌}
use Prim.Native.Nat.{◌≤◌}
use Rattle.ledger.specs.Pairs.{Pair}
use Rattle.choice.specs.laws.Smallest.{chosen-rule}
use Rattle.std.specs.Prelude.{Some, None}
use Rattle.choice.specs.declared.Turn.{Turn}
use Rattle.record.specs.Work.{chosen, work_by, work_pair}
use Rattle.record.specs.declared.work.Work.{Work}

module _ (w : Work) (pair : Pair) where
  pub not-turned : chosen w pair ≡ None → work_pair w pair ≡ w
  unfolding work_pair work_by
  not-turned e = rw e

  pub turned_by : (turn : Turn) → chosen w pair ≡ Some turn → work_pair w pair ≡ work_by w pair (Some turn)
  unfolding work_pair
  turned_by turn e = rw e

  pub l-range : (turn : Turn) → chosen w pair ≡ Some turn → (1 ≤ turn.l) × (turn.l ≤ 14)
  unfolding chosen
  l-range turn e = let rule = chosen-rule _ _ _ turn.l turn.minus e in (rule.size.low, rule.size.high)
