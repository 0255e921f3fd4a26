-- The invariant: what the lines so far print is written, and the next one is to be played on what they left.
use Rattle.std.proofs.Common.{◌-◌, length}
use Rattle.play.specs.Steps.{Within}
use Rattle.play.proofs.Passing.{Wrote}
use Rattle.play.proofs.passes.put_played.Given as goal

abbrev pub invariant-loop-next : goal.invariant-loop-next
invariant-loop-next g l =
    g.R.Receiver.valid l.r × Within l.text l.here × Wrote g.R.Receiver.plays l.fn.r l.text l.r l.here l.initial.buf l.buf l.end

abbrev pub decreases-loop-next : goal.decreases-loop-next
decreases-loop-next g l = length l.text - l.here.at
