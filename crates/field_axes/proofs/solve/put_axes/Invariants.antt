-- `solution::put_axes` meets its contract: the rows before this one stand at the front of the buffer.
use Rattle.text.specs.Put.{Put}
use Rattle.field_axes.specs.inner.Solution.{used}
use Rattle.field_axes.proofs.solve.put_axes.Given as goal

abbrev pub invariant-loop-numbers : goal.invariant-loop-numbers
invariant-loop-numbers l = Put (used l.n l.axes l.numbers-index) 0 l.initial.out l.out l.at
