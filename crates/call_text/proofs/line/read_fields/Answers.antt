-- `line::read_fields` meets its contract.
use mir.Syntax.{w64}
use mir.Val.{SFits}
use mir.Facts.{to_z-of_z}
use borrow.Author.Rules.{rules}
use Rattle.call_text.proofs.Lines.{line-bad, line-end, line-full, line-more, no-tag, start}
use Rattle.call_text.proofs.line.read_fields.Goals as goal

pub returns-then-at-ne1 : goal.returns-then-at-ne1
returns-then-at-ne1 c = no-tag _ _ _ c.find-at.ensures.is c.if-at-ne1.true

pub loop-at-init : goal.loop-at-init
loop-at-init c = (c.find-at.ensures.high, start _ _ _ c.find-at.ensures.is c.if-at-ne1.false)

pub returns-in_err-x : goal.returns-in_err-x
returns-in_err-x c =
    rw c.from_residual.ensures
    (line-bad _ _ _ _ _ _ c.loop-at.invariant.1 c.loop-at-test.true _ c.find-end.ensures.is c.in_err-x.ensures)

pub returns-then-numbers-count : goal.returns-then-numbers-count
returns-then-numbers-count c =
    line-full _ _ _ _ _ _ c.loop-at.invariant.1 c.loop-at-test.true _ c.find-end.ensures.is c.if-numbers-count.true

pub loop-at-preserved : goal.loop-at-preserved
loop-at-preserved c =
    let z : SFits w64 c.in_ok-x.x = search rules in (
      c.find-end.ensures.high,
      rw (to_z-of_z z)
          (line-more _ _ _ _ _ _ c.loop-at.invariant.1 c.loop-at-test.true _ c.find-end.ensures.is c.if-numbers-count.false _ c.in_ok-x.ensures),
    )

pub returns : goal.returns
returns c = line-end _ _ _ _ _ _ c.loop-at.invariant.1 c.loop-at-test.false
