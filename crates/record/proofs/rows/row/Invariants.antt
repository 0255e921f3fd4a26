-- The entries before j stand.
use Rattle.std.proofs.Common.{◌≡◌, pos}
use Rattle.record.specs.Flat.{kept_entry}
use Rattle.turn.specs.inner.Eight.{front}
use Rattle.record.proofs.rows.row.Given as goal

abbrev pub invariant-loop-j : goal.invariant-loop-j
invariant-loop-j l = l.row ≡ front (kept_entry l.a l.i) (pos 0) l.j
