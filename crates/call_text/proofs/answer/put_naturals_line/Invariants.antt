-- The invariant: the tag and the numbers so far are at the front of the buffer.
use Rattle.call_text.proofs.Printing.{Begun}
use Rattle.call_text.proofs.answer.put_naturals_line.Given as goal

abbrev pub invariant-loop-x : goal.invariant-loop-x
invariant-loop-x l = Begun l.tag l.xs l.x-index l.fn.buf l.buf l.at
