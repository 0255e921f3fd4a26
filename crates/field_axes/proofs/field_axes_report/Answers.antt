-- `field_axes_report` meets its contract.
use Rattle.std.proofs.Common.{arith}
use mir.Facts.{to_z-of_z}
use mir.Syntax.{w64}
use mir.Val.{SFits}
use borrow.Author.Rules.{rules}
use Rattle.field_axes.specs.Answer.{answered}
use Rattle.field_axes.specs.Report.{length_or_number, refused_line}
use Rattle.field_axes.proofs.Reporting.{as-numbers, short}
use Rattle.field_axes.proofs.field_axes_report.Goals as goal

pub answer-requires : goal.answer-requires
answer-requires c = omega (arith, short _ _ _ _ c.report.ensures _ c.in-Ok.is)

pub returns-in-Ok : goal.returns-in-Ok
unfolding length_or_number refused_line answered
returns-in-Ok c =
    let f : SFits w64 c.answer.result = search rules in
    rw (to_z-of_z f, c.answer.ensures) (as-numbers _ _ _ _ c.report.ensures _ c.in-Ok.is)

pub returns-in-Err : goal.returns-in-Err
unfolding length_or_number refused_line answered
returns-in-Err c =
    let f : SFits w64 c.answer-in-Err.result = search rules in
    rw (to_z-of_z f, c.answer-in-Err.ensures) (as-numbers _ _ _ _ c.report.ensures _ c.in-Err.is)
