-- At i the rows before it are mirrored.
use Rattle.turn.proofs.Whole.{Mirrored}
use Rattle.turn.proofs.mirror.Given as goal

abbrev pub invariant-loop-i : goal.invariant-loop-i
invariant-loop-i l = Mirrored l.p l.q l.initial.a l.i l.a
