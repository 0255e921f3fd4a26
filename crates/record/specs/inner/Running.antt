-- What the loop of a run promises: work in place of the record that holds it.
use Rattle.std.specs.Prelude.{false, List, ◌≡◌, ℕ, ◌≤◌}
use Rattle.limits.specs.Limits.{most_sweeps, tolerance_limit}
use Rattle.turn.specs.Shape.{Shaped}
use Rattle.turn.specs.Turn.{at}
use Rattle.record.specs.Flat.{flat_of}
use Rattle.record.specs.Kept.{KeptSolver}
use Rattle.record.specs.Run.{run_from, stop}
use Rattle.record.specs.declared.Record.{Record}
use Rattle.record.specs.declared.solver.Solver.{Solver}
use Rattle.record.specs.declared.run.Ended.{Ended}
use Rattle.record.specs.declared.work.Work.{Work}

-- the state that holds work, with its e; and a record with that state and its counts of refused calls
abbrev pub solver_of : ℕ → Work → Solver
solver_of shift w = record { n = w.n; m = w.m; e = shift; a = flat_of (at w.matrix); v = flat_of (at w.axes) }

abbrev pub held_of : ℕ → List ℕ → Work → Record
held_of shift refused w = record { solver = solver_of shift w; refused = refused }

-- work that a kept state holds
pub record Holds (shift : ℕ) (w : Work) : Type 0 where
  pub keeps : KeptSolver (solver_of shift w)
  pub matrix : Shaped w.matrix
  pub axes : Shaped w.axes

-- a matrix of some channel, not turned yet, a sweep limit of at most 16, and a tolerance in its range
pub record WorkRunnable (w : Work) (limit t : ℕ) : Type 0 where
  pub loaded : 1 ≤ w.n
  pub unturned : w.m ≡ 0
  pub sweeps : limit ≤ most_sweeps
  pub tolerated : t ≤ tolerance_limit
  pub holds : (shift : ℕ) → Holds shift w

-- the run of the record that holds the work, whatever its e and its counts of refused calls are
pub record WorkRan (w : Work) (limit t : ℕ) (z : Ended Unit) (w' : Work) : Type 0 where
  pub is : (shift : ℕ) (refused : List ℕ) →
      stop z.outcome z.sweeps (held_of shift refused w') ≡ run_from limit 0 false t (held_of shift refused w)
  pub holds : (shift : ℕ) → Holds shift w'
  pub same : w'.n ≡ w.n
