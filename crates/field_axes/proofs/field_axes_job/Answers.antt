-- `field_axes_job` meets its contract.
use Rattle.std.proofs.Common.{◌<◌, ◌^◌, length, arith}
use mir.Facts.{to_z-of_z}
use mir.Syntax.{w64}
use mir.Val.{SFits}
use borrow.Author.Rules.{rules}
use Rattle.field_axes.proofs.Answered.{fits, number}
use Rattle.field_axes.proofs.Numbers.{job-known}
use Rattle.field_axes.proofs.field_axes_job.Goals as goal

pub answer-requires : goal.answer-requires
answer-requires c = let h : length c.args.out.now < 2 ^ 63 = omega (arith, c.well_formed) in fits _ _ _ _ _ c.write_job.ensures h

pub returns : goal.returns
returns c =
    let a = c.args in
    let f : SFits w64 c.answer.result = search rules in
    rw (to_z-of_z f, c.answer.ensures)
    (record {
      answer = number _ _ _ _ _ c.write_job.ensures (job-known a.n a.limit a.tolerance a.dilutions.now a.counts.now);
      buffer = c.write_job.ensures.buffer;
    })
