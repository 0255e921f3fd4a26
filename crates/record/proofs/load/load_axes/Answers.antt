use Rattle.std.proofs.Common.{arith, pos}
use Rattle.record.proofs.Axes.{diagonal-more}
use Rattle.record.specs.Blank.{blank}
use Rattle.turn.specs.InUse.{in_use}
use Rattle.turn.specs.Turn.{eight}
use Rattle.record.proofs.load.load_axes.Goals as goal

pub loop-i-init : goal.loop-i-init
unfolding blank eight in_use
loop-i-init c = c.requires.0

pub loop-i-preserved : goal.loop-i-preserved
loop-i-preserved c = rw c.loop-i.invariant (diagonal-more (pos 1073741824) c.loop-i.i (omega arith))
