-- The invariant: the lines before have come to the receiver and the cursor, and each turn leaves less of the text.
use Rattle.std.proofs.Common.{◌-◌, length, List, ℕ}
use Rattle.play.specs.Steps.{Reached, Within}
use Rattle.play.proofs.in_order.play_all.Given as goal

abbrev pub invariant-loop-next : goal.invariant-loop-next
invariant-loop-next g l =
    g.R.Receiver.valid l.r × Within l.text l.here × g.R.InOrder.stands l.text l.r l.here ×
    ((before : List ℕ) × Reached g.R.Receiver.plays l.initial.r l.text l.r l.here before)

abbrev pub decreases-loop-next : goal.decreases-loop-next
decreases-loop-next g l = length l.text - l.here.at
