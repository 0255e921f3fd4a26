-- `answer` meets its contract: the negated number is read back from its bits.
use Rattle.std.proofs.Common.{◌<◌, ◌^◌, pos, arith}
use mir.Facts.{to_z-of_z, to_z_pos}
use mir.Syntax.{w64}
use mir.Val.{SFits}
use borrow.Author.Rules.{rules}
use Rattle.integer.specs.laws.Word.{negated}
use Rattle.field_axes.specs.Answer.{answered}
use Rattle.field_axes.proofs.answer.Goals as goal

pub returns-in-Ok : goal.returns-in-Ok
unfolding answered
returns-in-Ok c =
    let few : c.in-Ok.count < 2 ^ 63 = search rules in
    rw (c.in-Ok.is, to_z_pos w64 few)

pub returns-in-Err : goal.returns-in-Err
unfolding answered
returns-in-Err c =
    let f : SFits w64 c.from.result = search rules in
    rw (c.in-Err.is, to_z-of_z f, c.from.ensures, negated (pos c.number.result) (omega arith), c.number.ensures)
