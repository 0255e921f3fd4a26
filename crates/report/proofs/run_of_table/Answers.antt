-- `report::run_of_table` meets its contract.
use Prim.Native.Nat.{ℕ, ◌*◌, ◌≤◌}
use mathlib.Core.Path.{sym}
use native.Mathlib.Omega.{arith}
use native.Mathlib.Nat.{le_trans}
use lib.ListN.{length}
use lib.Seq.{length-take-le}
use Rattle.ledger.specs.laws.Accepted.{load-accepted}
use Rattle.limits.specs.laws.Channels.{places}
use Rattle.run.specs.laws.Course.{table-ends}
use Rattle.scatter.specs.declared.table.Table.{Table}
use Rattle.report.specs.Done.{TableRunnable, run_of_table}
use Rattle.report.proofs.run_of_table.Goals as goal

module _ {n limit tolerance : ℕ} {t : Table} (r : TableRunnable n limit tolerance t) where
  size : n * n ≤ 64
  size = places _ (load-accepted 0 0 _ _ r.allowed.matrix).high

  entries-within : n * n ≤ length t.entries
  entries-within = rw r.size size

pub overflow_mul-n : goal.overflow_mul-n
overflow_mul-n c = record { fits = omega (arith, size c.requires) }

pub shared_ref_as_front-run_table : goal.shared_ref_as_front-run_table
shared_ref_as_front-run_table c = size c.requires

pub slice_bounds-run_table-end : goal.slice_bounds-run_table-end
slice_bounds-run_table-end c = sym (length-take-le _ _ (entries-within c.requires))

pub returns : goal.returns
unfolding run_of_table
returns c =
    record {
      is = c.run_table.ensures.is;
      keeps = c.run_table.ensures.keeps;
      sweeps = rw c.run_table.ensures.is (le_trans (table-ends _ _ _ _ _).within c.requires.allowed.sweeps);
    }
