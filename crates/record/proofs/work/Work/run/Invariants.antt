-- From each round on, the run is the whole run.
use Rattle.std.proofs.Common.{◌-◌, ℕ, List, false}
use Rattle.record.proofs.Going.{Going}
use Rattle.record.specs.Run.{run_from}
use Rattle.record.specs.inner.Running.{held_of}
use Rattle.record.proofs.work.Work.run.Given as goal

abbrev pub invariant-loop-idle : goal.invariant-loop-idle
invariant-loop-idle l =
    (e : ℕ) (k : List ℕ) →
    Going e k l.initial.self.n l.limit l.tolerance (run_from l.limit 0 false l.tolerance (held_of e k l.initial.self)) l.self l.sweeps l.idle

abbrev pub decreases-loop-idle : goal.decreases-loop-idle
decreases-loop-idle l = l.limit - l.sweeps
