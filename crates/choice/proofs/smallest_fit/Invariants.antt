-- The search from l on gives what the search from 1 gives.
use Rattle.std.proofs.Common.{◌≡◌, ◌-◌}
use Rattle.choice.specs.Choice.{smallest_fit}
use Rattle.choice.proofs.smallest_fit.Given as goal

abbrev pub invariant-loop-l : goal.invariant-loop-l
invariant-loop-l l = smallest_fit l.y l.g l.minus 1 14 ≡ smallest_fit l.y l.g l.minus l.l (15 - l.l)
