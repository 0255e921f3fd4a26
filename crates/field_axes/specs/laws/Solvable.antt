-- A run that is not refused: what its arguments keep to, and how many numbers it gives.
use Rattle.std.specs.Prelude.{ℕ, zero, suc, ◌+◌, ◌*◌, ◌≤◌, ◌≡◌, ◌&&◌, List, leb, ℤ, length}
use Rattle.std.proofs.Common.{mul-le-mul, arith, leb→le, length-append, length-take-le}
use Rattle.std.proofs.Math.Facts.{and_yes}
use Rattle.ledger.specs.laws.Accepted.{load-accepted}
use Rattle.limits.specs.laws.Unless.{neither, passed}
use Rattle.ledger.specs.Call.{axis, load}
use Rattle.ledger.specs.Refusal.{refusal_of}
use Rattle.limits.specs.Limits.{tolerance_limit, least_sweeps, most_sweeps}
use Rattle.report.specs.laws.AxisNumbers.{length-row, length-values}
use Rattle.record.specs.Record.{row_to}
use Rattle.record.specs.Run.{own}
use Rattle.record.specs.declared.Record.{Record}
use Rattle.field_axes.specs.Solution.{axes, axis_solution, solution, solution_of, solve_refusal}
use Rattle.field_axes.specs.inner.Solvable.{Solvable}

pub solvable : (n : ℕ) (numbers : List ℤ) (limit t size : ℕ) → solve_refusal n numbers limit t size ≡ 0 → Solvable n numbers limit t size
unfolding solve_refusal
solvable n numbers limit t size e =
    let load = neither (refusal_of 0 0 (load n numbers)) _ e in
    let ranges = passed (leb least_sweeps limit && (leb limit most_sweeps && leb t tolerance_limit)) 2 _ load.1 (omega arith) in
    let upper = and_yes (leb limit most_sweeps) (leb t tolerance_limit) (and_yes (leb least_sweeps limit) _ ranges.0).1 in
    record {
      allowed = record { matrix = load.0; sweeps = leb→le limit most_sweeps upper.0; tolerance = leb→le t tolerance_limit upper.1 };
      room = leb→le _ size (passed (leb (3 + n * (n + 2)) size) 12 0 ranges.1 (omega arith)).0;
    }

-- how many numbers
pub numbers-few : (n : ℕ) → n ≤ 8 → n * (n + 2) ≤ 80
numbers-few n h = mul-le-mul {n₁ = n} {m₁ = n + 2} {n₂ = 8} {m₂ = 10} h (omega arith)

pub length-axis : (n : ℕ) (r : Record) (i : ℕ) → n ≤ 8 → length (axis_solution n r i) ≡ n + 2
unfolding axis_solution
length-axis n r i h = simp (length-append, length-values, length-take-le n (row_to r (own (axis i))) (rw length-row h)) (omega arith)

pub length-axes : (n : ℕ) (r : Record) (last : ℕ) → n ≤ 8 → length (axes n r last) ≡ last * (n + 2)
unfolding axes
length-axes n r zero h = omega arith
length-axes n r (suc last) h = simp (length-append, length-axis n r (suc last) h, length-axes n r last h) (omega arith)

module _ (n : ℕ) (numbers : List ℤ) (limit t size : ℕ) (s : Solvable n numbers limit t size) where
  pub channels : n ≤ 8
  channels = (load-accepted 0 0 n numbers s.allowed.matrix).high

  pub length-solution : length (solution_of n numbers limit t) ≡ 3 + n * (n + 2)
  unfolding solution_of solution
  length-solution = rw (length-append, length-axes n _ n channels)

  pub length-small : length (solution_of n numbers limit t) ≤ 83
  length-small = rw length-solution (omega (arith, numbers-few n channels))
