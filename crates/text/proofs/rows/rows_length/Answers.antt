-- One line more: a row of eleven numbers, so its numbers have at most 231 bytes.
use Rattle.std.proofs.Common.{[], arith}
use Rattle.std.proofs.lemmas.List.{get_or-take}
use Rattle.text.specs.laws.Lines.{lines_none, lines-length}
use Rattle.text.specs.laws.Numbers.{length-number-line}
use Rattle.text.specs.Rows.{row_line}
use Rattle.text.proofs.rows.rows_length.Goals as goal

pub loop-row-init : goal.loop-row-init
loop-row-init c = record { exact = λ tag. rw (lines_none (row_line tag _ _)); bounded = omega arith }

pub loop-row-preserved : goal.loop-row-preserved
loop-row-preserved c =
    let i = c.loop-row.row-index in
    let row = get_or-take c.args.n c.args.rows.now i [] (omega arith) in
    let sized = rw row at c.numbers_length.ensures in
    record {
      exact = λ tag. rw (lines-length (row_line tag _ _) i, length-number-line) (omega (arith, c.loop-row.invariant.exact tag, sized.exact));
      bounded = omega (arith, sized.bounded);
    }
