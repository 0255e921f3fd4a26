-- What holds of every record that the constructor and the calls make.
use Rattle.std.specs.Prelude.{◌≢◌, ◌≡◌, length, ◌≤◌}
use Rattle.limits.specs.Limits.{benches, turn_limit}
use Rattle.record.specs.KeptWork.{KeptWork}
use Rattle.record.specs.Solver.{work_of}
use Rattle.record.specs.declared.Record.{Record}
use Rattle.record.specs.declared.solver.Solver.{Solver}

-- n is 0 or from 2 to 8, m is at most 448, and the kept matrix and axes, 64 entries each, are as KeptWork says
pub record KeptSolver (s : Solver) : Type 0 where
  pub size : s.n ≤ 8
  pub channels : s.n ≢ 1
  pub turns : s.m ≤ turn_limit
  pub work : KeptWork (work_of s)
  pub matrix-length : length s.a ≡ 64
  pub axes-length : length s.v ≡ 64

-- and there is a count for each bench
pub record Kept (r : Record) : Type 0 where
  pub solver : KeptSolver r.solver
  pub counts : length r.refused ≡ benches
