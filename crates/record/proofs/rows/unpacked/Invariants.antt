-- The first i rows stand.
use Rattle.std.proofs.Common.{◌≡◌, pos}
use Rattle.record.specs.Flat.{entries_of}
use Rattle.turn.specs.Turn.{eight}
use Rattle.turn.specs.inner.Eight.{front}
use Rattle.record.proofs.rows.unpacked.Given as goal

abbrev pub invariant-loop-i : goal.invariant-loop-i
invariant-loop-i l = l.rows ≡ front (entries_of l.a) (eight (λ j. pos 0)) l.i
