-- One line more, in the buffer's part from where the last line ended.
use Rattle.std.proofs.Common.{[], arith}
use Rattle.std.proofs.lemmas.List.{get_or-take}
use Rattle.text.specs.laws.Lines.{lines_none, lines_more, line-within}
use Rattle.text.specs.laws.Put.{part-size, put-nothing, put-part}
use Rattle.text.specs.Rows.{row_line}
use Rattle.text.proofs.rows.put_rows.Goals as goal

pub loop-row-init : goal.loop-row-init
loop-row-init c = rw (lines_none (row_line _ _ _)) (put-nothing 0 c.args.buf.now (omega arith))

pub put_line-at-requires : goal.put_line-at-requires
put_line-at-requires c =
    let i = c.loop-row.row-index in
    let row = get_or-take c.args.n c.args.rows.now i [] (omega arith) in
    let room = line-within (row_line c.args.tag c.args.width c.args.rows.now) c.args.n i (omega arith) in
    rw row (omega (arith, room, c.loop-row.invariant.answer, part-size c.loop-row.invariant, c.requires.2))

pub loop-row-preserved : goal.loop-row-preserved
loop-row-preserved c =
    let i = c.loop-row.row-index in
    let row = get_or-take c.args.n c.args.rows.now i [] (omega arith) in
    rw (lines_more (row_line _ _ _) i) (put-part c.loop-row.invariant (rw row at c.put_line-at.ensures))
