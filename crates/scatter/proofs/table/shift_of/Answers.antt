-- `scatter::table::shift_of` meets its contract.
use Rattle.std.proofs.Common.{arith}
use Rattle.limits.specs.laws.Values.{former-below}
use Rattle.scatter.specs.laws.Shift.{below-limit}
use Rattle.scatter.proofs.table.shift_of.Goals as goal

pub overflow_add-e : goal.overflow_add-e
overflow_add-e c = record { fits = omega (arith, below-limit former-below (rw c.loop-bound.invariant.bound at c.loop-bound-test.true) c.requires) }
