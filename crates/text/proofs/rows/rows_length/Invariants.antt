-- The lines so far are counted, at most 233 bytes each.
use Rattle.text.specs.Rows.{RowsSized}
use Rattle.text.proofs.rows.rows_length.Given as goal

abbrev pub invariant-loop-row : goal.invariant-loop-row
invariant-loop-row l = RowsSized l.width l.rows l.row-index l.total
