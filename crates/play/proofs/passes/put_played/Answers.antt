-- `passes::put_played` meets its contract, line after line.
use Rattle.std.proofs.Common.{arith}
use Rattle.play.specs.laws.Steps.{start-within}
use Rattle.play.proofs.Passing.{room, written_last, written-more, wrote_nothing}
use Rattle.play.proofs.passes.put_played.Goals as goal

pub loop-next-init : goal.loop-next-init
loop-next-init g c = (
  c.requires.0,
  rw c.start-here.ensures (start-within _),
  wrote_nothing g.R.Receiver.plays _ _ _ c.start-here.ensures,
)

pub step-own-requires : goal.step-own-requires
step-own-requires g c = (omega (arith, g.met.R.Receiver.small), (c.loop-next.invariant.0, c.loop-next.invariant.1))

pub text-requires : goal.text-requires
text-requires g c = omega (arith, g.met.R.Receiver.small)

pub put_bytes-end-requires : goal.put_bytes-end-requires
put_bytes-end-requires g c = rw c.text.ensures.is (room c.step-own.ensures.steps c.loop-next.invariant.2 c.requires.1)

pub returns-in_default : goal.returns-in_default
returns-in_default g c =
    written_last c.step-own.ensures.steps c.loop-next.invariant.2 (rw c.text.ensures.is at c.put_bytes-end.ensures) c.in_default.is

pub loop-next-smaller : goal.loop-next-smaller
loop-next-smaller g c =
    let on = c.step-own.ensures.steps.moves _ c.in-Some.is in
    omega (arith, on.0, on.1.place)

pub loop-next-preserved : goal.loop-next-preserved
loop-next-preserved g c = (
  c.step-own.ensures.keeps,
  (c.step-own.ensures.steps.moves _ c.in-Some.is).1,
  written-more c.step-own.ensures.steps c.loop-next.invariant.2 (rw c.text.ensures.is at c.put_bytes-end.ensures) _ c.in-Some.is,
)
