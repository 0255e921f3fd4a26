-- `report::axes::axes_numbers` meets its contract.
use mathlib.Core.Path.{◌≡◌, refl, ◌∙◌}
use native.Mathlib.Numerals.{add-one}
use native.Mathlib.Omega.{arith}
use Rattle.turn.specs.laws.Eight.{front-more}
use Rattle.turn.specs.Turn.{eight}
use Rattle.report.specs.inner.AxisNumbers.{axes_numbers}
use Rattle.report.proofs.axes.axes_numbers.Goals as goal

pub loop-i-init : goal.loop-i-init
unfolding eight
loop-i-init c = refl

pub loop-i-preserved : goal.loop-i-preserved
loop-i-preserved c =
    rw c.loop-i.invariant (front-more _ _ c.loop-i.i _ (omega (arith, c.requires.solver.size)) (c.axis_numbers.ensures ∙ rw add-one))

pub returns : goal.returns
unfolding axes_numbers
returns c =
    let e : c.loop-i.i ≡ c.args.r.solver.n = omega arith in
    rw e at c.loop-i.invariant
