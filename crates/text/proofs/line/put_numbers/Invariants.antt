-- The numbers so far are written, and `at` is the place after them.
use Rattle.std.proofs.Common.{take}
use Rattle.text.specs.Line.{numbers}
use Rattle.text.specs.Put.{Put}
use Rattle.text.proofs.line.put_numbers.Given as goal

abbrev pub invariant-loop-value : goal.invariant-loop-value
invariant-loop-value l = Put (numbers (take l.value-index l.values)) 0 l.fn.buf l.buf l.at
