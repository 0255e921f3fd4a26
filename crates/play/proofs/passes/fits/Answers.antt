-- `passes::fits` meets its contract, line after line.
use Rattle.std.proofs.Common.{arith}
use Rattle.play.specs.laws.Steps.{start-within}
use Rattle.play.proofs.Passing.{fits_all, fits_not, fits_on, starts}
use Rattle.play.proofs.passes.fits.Goals as goal

pub loop-left-init : goal.loop-left-init
loop-left-init g c = (c.requires, rw c.start-here.ensures (start-within _), rw (← starts g.R.Receiver.plays _ _ c.start-here.ensures))

pub step-done-requires : goal.step-done-requires
step-done-requires g c = (omega (arith, g.met.R.Receiver.small), (c.loop-left.invariant.0, c.loop-left.invariant.1))

pub text-len-requires : goal.text-len-requires
text-len-requires g c = omega (arith, g.met.R.Receiver.small)

pub returns-then-left-len : goal.returns-then-left-len
returns-then-left-len g c =
    fits_not c.step-done.ensures.steps _ _ _ c.loop-left.invariant.2 (rw c.text-len.ensures.is at c.if-left-len.true)

pub returns-in_default : goal.returns-in_default
returns-in_default g c =
    fits_all c.step-done.ensures.steps _ _ _ c.loop-left.invariant.2 (rw c.text-len.ensures.is at c.if-left-len.false) c.in_default.is

pub loop-left-smaller : goal.loop-left-smaller
loop-left-smaller g c =
    let on = c.step-done.ensures.steps.moves _ c.in-Some.is in
    omega (arith, on.0, on.1.place)

pub loop-left-preserved : goal.loop-left-preserved
loop-left-preserved g c = (
  c.step-done.ensures.keeps,
  (c.step-done.ensures.steps.moves _ c.in-Some.is).1,
  rw c.text-len.ensures.is
      (fits_on c.step-done.ensures.steps _ _ _ c.loop-left.invariant.2 (rw c.text-len.ensures.is at c.if-left-len.false) _ c.in-Some.is),
)
