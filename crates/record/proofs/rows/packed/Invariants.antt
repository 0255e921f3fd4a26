-- The flat matrix is filled row by row. The inner loop knows the matrix as it was where it began.
use Rattle.std.proofs.Common.{◌≡◌}
use Rattle.record.proofs.Filled.{filled_to}
use Rattle.record.specs.Flat.{flat_of}
use Rattle.turn.specs.Turn.{at}
use Rattle.record.proofs.rows.packed.Given as goal

abbrev pub invariant-loop-j : goal.invariant-loop-j
invariant-loop-j l = l.initial.a ≡ flat_of (filled_to 8 (at l.b) l.i 0) → l.a ≡ flat_of (filled_to 8 (at l.b) l.i l.j)

abbrev pub invariant-loop-i : goal.invariant-loop-i
invariant-loop-i l = l.a ≡ flat_of (filled_to 8 (at l.b) l.i 0)
