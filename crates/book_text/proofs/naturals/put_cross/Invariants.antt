-- `naturals::put_cross` meets its contract. The invariant: the rows before this one are written, each in at most 8 × 21 bytes.
use Rattle.std.proofs.Common.{◌*◌, ◌≤◌}
use Rattle.text.specs.Put.{Put}
use Rattle.book_text.specs.Answers.{cross_rows}
use Rattle.book_text.specs.inner.Played.{naturals}
use Rattle.book_text.proofs.naturals.put_cross.Given as goal

abbrev pub invariant-loop-i : goal.invariant-loop-i
invariant-loop-i l =
    (l.at ≤ 21 * (8 * l.i)) × Put (naturals (cross_rows l.n l.cross l.i)) 0 l.initial.buf l.buf l.at
