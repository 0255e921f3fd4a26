-- The lines of the first i panels are counted, at most 23 bytes each.
use Rattle.std.proofs.Common.{◌≡◌, ◌*◌, ◌≤◌, length}
use Rattle.text.specs.Lines.{lines}
use Rattle.panel.specs.laws.Text.{line_at}
use Rattle.panel.proofs.lines.text_length.Given as goal

abbrev pub invariant-loop-i : goal.invariant-loop-i
invariant-loop-i l = record { counted : l.total ≡ length (lines (line_at l.b) l.i); few : l.total ≤ 23 * l.i }
