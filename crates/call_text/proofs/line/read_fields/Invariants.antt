-- The invariant: the numbers so far are at the front of the array, and the line's fields are those numbers and the fields from `at` on.
use Rattle.std.proofs.Common.{◌≤◌, ◌-◌, get_or, length}
use Rattle.call_text.proofs.Lines.{Reading}
use Rattle.call_text.proofs.line.read_fields.Given as goal

abbrev pub invariant-loop-at : goal.invariant-loop-at
invariant-loop-at l = (l.at ≤ length l.line) × Reading l.line l.fn.numbers (get_or l.line 0 0) l.numbers l.count l.at

abbrev pub decreases-loop-at : goal.decreases-loop-at
decreases-loop-at l = length l.line - l.at
