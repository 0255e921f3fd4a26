-- At i the numbers of the axes before it stand.
use Rattle.std.proofs.Common.{◌≡◌, suc, pos, replicate}
use Rattle.report.specs.inner.AxisNumbers.{axis_numbers}
use Rattle.turn.specs.inner.Eight.{front}
use Rattle.report.proofs.axes.axes_numbers.Given as goal

abbrev pub invariant-loop-i : goal.invariant-loop-i
invariant-loop-i l = l.numbers ≡ front (λ i. axis_numbers l.r (suc i)) (replicate 11 (pos 0)) l.i
