-- Every smaller shift was tried, and its bound was too low.
use Rattle.std.specs.Prelude.{◌≡◌, ℕ, ◌-◌, ◌*◌, ◌^◌, ◌<◌}
use Rattle.limits.specs.Limits.{entry_limit}
use Rattle.scatter.proofs.table.shift_of.Given as goal

abbrev pub invariant-loop-bound : goal.invariant-loop-bound
invariant-loop-bound l = record {
  bound : l.bound ≡ entry_limit * 2 ^ l.e;
  least : (d : ℕ) → d < l.e → entry_limit * 2 ^ d < l.m;
}

abbrev pub decreases-loop-bound : goal.decreases-loop-bound
decreases-loop-bound l = l.m - l.bound
