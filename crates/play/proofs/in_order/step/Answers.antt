-- `in_order::step` meets its contract: what stands at the cursor picks the branch.
use Rattle.play.proofs.Stepping.{steps-call, steps-end, steps-open, steps-unknown}
use Rattle.play.proofs.in_order.step.Goals as goal

pub returns-then-text-at-clause-steps : goal.returns-then-text-at-clause-steps
returns-then-text-at-clause-steps g c = steps-end _ _ _ _ _ _ c.if-text-at.true c.ended.ensures

pub returns-then-text-end-clause-steps : goal.returns-then-text-end-clause-steps
returns-then-text-end-clause-steps g c =
    steps-open _ _ _ _ _ _ c.if-text-at.false _ c.find-end.ensures.is c.if-text-end.true c.unknown.ensures

pub returns-in_default-clause-steps : goal.returns-in_default-clause-steps
returns-in_default-clause-steps g c =
    steps-unknown _ _ _ _ _ _ c.if-text-at.false _ c.find-end.ensures.is c.if-text-end.false c.in_default.ensures.plays_line
    c.unknown-in_default.ensures

pub returns-clause-steps : goal.returns-clause-steps
returns-clause-steps g c =
    steps-call _ _ _ _ _ _ c.if-text-at.false _ c.find-end.ensures.is c.if-text-end.false c.in-Some.ensures.plays_line c.requires.1
