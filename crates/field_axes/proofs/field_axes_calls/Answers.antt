-- `field_axes_calls` meets its contract.
use Rattle.std.proofs.Common.{◌<◌, ◌^◌, ap, length, arith}
use mir.Facts.{to_z-of_z}
use mir.Syntax.{w64}
use mir.Val.{SFits}
use borrow.Author.Rules.{rules}
use Rattle.field_axes.specs.Answer.{answered}
use Rattle.field_axes.proofs.Answered.{each-ok}
use Rattle.field_axes.proofs.Reporting.{played-fits}
use Rattle.field_axes.proofs.field_axes_calls.Goals as goal

-- a buffer has fewer than 2^63 bytes
pub answer-requires : goal.answer-requires
answer-requires c =
    let h : length c.args.out.now < 2 ^ 63 = omega (arith, c.well_formed) in
    each-ok c.play.result (λ k e. omega (arith, played-fits _ _ _ _ c.play.ensures k e))

pub returns : goal.returns
returns c =
    let f : SFits w64 c.answer.result = search rules in
    rw (to_z-of_z f, c.answer.ensures) (record { answer = ap answered c.play.ensures.answer; buffer = c.play.ensures.buffer })
