-- The places come row after row, and those from the next on are still 0.
use Rattle.std.specs.Prelude.{pos, ◌+◌, ◌*◌}
use Rattle.integer.specs.Padded.{padded}
use Rattle.integer.specs.laws.Filled.{Filled}
use Rattle.scatter.specs.inner.BySums.{scatter_by_sums}
use Rattle.scatter.proofs.Places.{zeros}
use Rattle.scatter.proofs.table.scatter_of.Given as goal

abbrev pub invariant-loop-i : goal.invariant-loop-i
invariant-loop-i l = Filled (pos 0) (padded 64 (pos 0) (scatter_by_sums l.n l.t)) zeros l.s (l.i * l.n)

abbrev pub invariant-loop-j : goal.invariant-loop-j
invariant-loop-j l = Filled (pos 0) (padded 64 (pos 0) (scatter_by_sums l.n l.t)) zeros l.s (l.i * l.n + l.j)
