-- Work on which a pair may be chosen and turned.
use Rattle.std.specs.Prelude.{◌≤◌}
use Rattle.limits.specs.Limits.{turn_limit}
use Rattle.turn.specs.Shape.{Shaped}
use Rattle.record.specs.KeptWork.{KeptWork}
use Rattle.record.specs.declared.work.Work.{Work}

pub record Ready (w : Work) : Type 0 where
  pub size : w.n ≤ 8
  pub kept : KeptWork w
  pub few : w.m ≤ turn_limit
  pub matrix : Shaped w.matrix
  pub axes : Shaped w.axes
