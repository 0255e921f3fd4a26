-- The invariant: what the text prints is within the limit if what the lines from here on print is within what is left of it.
use Rattle.std.proofs.Common.{◌≡◌, ◌-◌, false, leb, length}
use Rattle.play.specs.Steps.{Within}
use Rattle.play.specs.laws.Steps.{rest}
use Rattle.play.specs.Text.{text_played}
use Rattle.play.proofs.passes.fits.Given as goal

abbrev pub invariant-loop-left : goal.invariant-loop-left
invariant-loop-left g l =
    let plays = g.R.Receiver.plays in
    g.R.Receiver.valid l.r × Within l.text l.here ×
    (leb (length (text_played plays false l.fn.r l.text)) l.most ≡ leb (length (rest plays l.text false l.r l.here)) l.left)

abbrev pub decreases-loop-left : goal.decreases-loop-left
decreases-loop-left g l = length l.text - l.here.at
