-- What a call ensures of the state that holds the matrix: its answer, the state that it leaves, and that this state is kept.
use Rattle.std.specs.Prelude.{◌≡◌, false, ℕ, ◌≤◌, List, ℤ}
use Rattle.ledger.specs.Call.{Call}
use Rattle.limits.specs.Limits.{most_sweeps, tolerance_limit}
use Rattle.record.specs.declared.query.Answer.{Answer}
use Rattle.record.specs.Kept.{KeptSolver}
use Rattle.record.specs.Run.{run_from, stop}
use Rattle.record.specs.Solver.{after_of, answer_of, loaded_solver, unloaded}
use Rattle.record.specs.declared.solver.Solver.{Solver}
use Rattle.record.specs.declared.run.Ended.{Ended}

pub record Unloaded (s : Solver) : Type 0 where
  pub is : s ≡ unloaded
  pub keeps : KeptSolver s

pub record Solved (s : Solver) (call : Call) (answer : Answer) (next : Solver) : Type 0 where
  pub answers : answer ≡ answer_of s call
  pub leaves : next ≡ after_of s call
  pub keeps : KeptSolver next

pub record SolverLoaded (n : ℕ) (numbers : List ℤ) (e : ℕ) (next : Solver) : Type 0 where
  pub is : next ≡ loaded_solver n numbers e
  pub keeps : KeptSolver next

-- a matrix is loaded and not turned yet, the sweep limit is at most 16, and the tolerance is in its range
pub record SolverRunnable (s : Solver) (limit tolerance : ℕ) : Type 0 where
  pub keeps : KeptSolver s
  pub loaded : 1 ≤ s.n
  pub unturned : s.m ≡ 0
  pub sweeps : limit ≤ most_sweeps
  pub tolerated : tolerance ≤ tolerance_limit

-- the run of the record that has the state, whatever its counts of refused calls are
pub record SolverRan (s : Solver) (limit tolerance : ℕ) (z : Ended Solver) : Type 0 where
  pub is : (counts : List ℕ) → stop z.outcome z.sweeps (record { solver = z.last; refused = counts }) ≡
      run_from limit 0 false tolerance (record { solver = s; refused = counts })
  pub keeps : KeptSolver z.last
