-- `play_all` meets its contract: it begins at the text's start, and a step that is followed by none is the last.
use Rattle.std.proofs.Common.{sym, ◌∙◌, arith, []}
use Rattle.play.specs.Steps.{begun}
use Rattle.play.specs.laws.Steps.{ends, reaches, start-within}
use Rattle.play.proofs.program.play_all.Goals as goal

pub loop-next-init : goal.loop-next-init
loop-next-init g c = (c.requires, rw c.start-here.ensures (start-within _), ([], rw c.start-here.ensures begun))

pub step-done-requires : goal.step-done-requires
step-done-requires g c = (omega (arith, g.met.R.Receiver.small), (c.loop-next.invariant.0, c.loop-next.invariant.1))

pub returns-in_default : goal.returns-in_default
returns-in_default g c = ends c.step-done.ensures.steps c.loop-next.invariant.2.1 (sym c.show.ensures ∙ c.in_default.is)

pub loop-next-smaller : goal.loop-next-smaller
loop-next-smaller g c =
    let on = c.step-done.ensures.steps.moves _ (sym c.show.ensures ∙ c.in-Some.is) in
    omega (arith, on.0, on.1.place)

pub loop-next-preserved : goal.loop-next-preserved
loop-next-preserved g c =
    let more = sym c.show.ensures ∙ c.in-Some.is in (
      c.step-done.ensures.keeps,
      (c.step-done.ensures.steps.moves _ more).1,
      (_, reaches c.step-done.ensures.steps c.loop-next.invariant.2.1 _ more),
    )
