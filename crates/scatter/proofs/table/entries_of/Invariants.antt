-- Place after place is the rounded number.
use Rattle.std.specs.Prelude.{pos, ◌^◌, get_or}
use Rattle.integer.specs.Tabulate.{tabulate}
use Rattle.integer.specs.laws.Filled.{Filled}
use Rattle.rounding.specs.Rounding.{rnd}
use Rattle.scatter.proofs.Places.{zeros}
use Rattle.scatter.proofs.table.entries_of.Given as goal

abbrev pub invariant-loop-p : goal.invariant-loop-p
invariant-loop-p l = Filled (pos 0) (tabulate 64 (λ p. rnd (get_or l.s p (pos 0)) (2 ^ l.e))) zeros l.entries l.p
