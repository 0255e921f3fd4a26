-- `naturals::put_naturals` meets its contract. The invariant: the values before this one are written, each in at most 21 bytes.
use Rattle.std.proofs.Common.{◌*◌, ◌≤◌, take}
use Rattle.text.specs.Put.{Put}
use Rattle.book_text.specs.inner.Played.{naturals}
use Rattle.book_text.proofs.naturals.put_naturals.Given as goal

abbrev pub invariant-loop-value : goal.invariant-loop-value
invariant-loop-value l =
    (l.at ≤ 21 * l.value-index) × Put (naturals (take l.value-index l.values)) 0 l.initial.buf l.buf l.at
