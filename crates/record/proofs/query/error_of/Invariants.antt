-- Before column j the sum is that of the columns below j.
use Rattle.std.proofs.Common.{◌≡◌, ◌*◌, ◌≤◌, cond, eqb, nat_abs}
use Rattle.choice.specs.Widest.{widest}
use Rattle.integer.specs.Sum.{sumℕ}
use Rattle.turn.specs.Turn.{at}
use Rattle.record.proofs.query.error_of.Given as goal

abbrev pub invariant-loop-j : goal.invariant-loop-j
invariant-loop-j l = (l.sum ≡ sumℕ l.j (λ j. cond (eqb j l.i) 0 (nat_abs (at l.a l.i j)))) × (l.sum ≤ l.j * widest)
