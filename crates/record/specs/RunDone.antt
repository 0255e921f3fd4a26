-- What the sweeps of a run require of the record that they are called on, and what they ensure.
use Rattle.std.specs.Prelude.{◌≡◌, false, ℕ, ◌≤◌}
use Rattle.limits.specs.Limits.{most_sweeps, tolerance_limit}
use Rattle.record.specs.Kept.{Kept}
use Rattle.record.specs.Run.{Run, run_from}
use Rattle.record.specs.declared.Record.{Record}

-- a matrix is loaded and not turned yet, the sweep limit is at most 16, and the tolerance is in its range
pub record Runnable (r : Record) (limit tolerance : ℕ) : Type 0 where
  pub keeps : Kept r
  pub loaded : 1 ≤ r.solver.n
  pub unturned : r.solver.m ≡ 0
  pub sweeps : limit ≤ most_sweeps
  pub tolerated : tolerance ≤ tolerance_limit

-- before the first sweep there is no last sweep that made no turn
pub record RunDone (r : Record) (limit tolerance : ℕ) (z : Run) : Type 0 where
  pub is : z ≡ run_from limit 0 false tolerance r
  pub keeps : Kept z.last
