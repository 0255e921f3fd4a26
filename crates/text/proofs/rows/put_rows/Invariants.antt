-- The lines so far are written, and `at` is the place after them.
use Rattle.text.specs.Lines.{lines}
use Rattle.text.specs.Put.{Put}
use Rattle.text.specs.Rows.{row_line}
use Rattle.text.proofs.rows.put_rows.Given as goal

abbrev pub invariant-loop-row : goal.invariant-loop-row
invariant-loop-row l = Put (lines (row_line l.tag l.width l.rows) l.row-index) 0 l.fn.buf l.buf l.at
