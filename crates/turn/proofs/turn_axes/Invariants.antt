-- At j the columns before it are turned.
use Rattle.turn.proofs.Columns.{Columns}
use Rattle.turn.proofs.turn_axes.Given as goal

abbrev pub invariant-loop-j : goal.invariant-loop-j
invariant-loop-j l = Columns l.r l.p l.q l.initial.v l.j l.v
