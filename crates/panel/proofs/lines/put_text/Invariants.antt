-- The lines of the first i panels are written, and `at` is the place after them.
use Rattle.text.specs.Lines.{lines}
use Rattle.text.specs.Put.{Put}
use Rattle.panel.specs.laws.Text.{line_at}
use Rattle.panel.proofs.lines.put_text.Given as goal

abbrev pub invariant-loop-i : goal.invariant-loop-i
invariant-loop-i l = Put (lines (line_at l.b) l.i) 0 l.initial.buf l.buf l.at
