-- The axes of i channels.
use Rattle.std.proofs.Common.{◌≡◌, pos}
use Rattle.integer.specs.Matrix.{diagonal}
use Rattle.limits.specs.Limits.{whole}
use Rattle.turn.specs.InUse.{in_use}
use Rattle.turn.specs.Turn.{square}
use Rattle.record.proofs.load.load_axes.Given as goal

abbrev pub invariant-loop-i : goal.invariant-loop-i
invariant-loop-i l = l.axes ≡ square (in_use l.i (diagonal (pos whole)))
