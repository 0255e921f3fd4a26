-- Calls that no refusal applies to, by their arguments and the record's n and m.
use Rattle.std.specs.Prelude.{◌≡◌, List, ℕ, suc, ◌+◌, ◌-◌, ◌*◌, ◌/◌, ◌<◌, ◌≤◌, ℤ, take}
use Rattle.std.proofs.Common.{le_refl, mul-le-mul, arith}
use Rattle.std.specs.Float.Ieee.Bits.{is_true}
use borrow.Author.Tests.{eq-eqb, le-leb, lt-ltb}
use Rattle.ledger.specs.laws.Accepted.{Loads, symmetric-of}
use Rattle.ledger.specs.Call.{Call, load, loose_pair, sweep_in}
use Rattle.limits.specs.laws.Channels.{pairs-twice}
use Rattle.limits.specs.Limits.{entry_limit, tolerance_limit, turn_limit}
use Rattle.limits.specs.laws.Values.{some-entry}
use Rattle.ledger.specs.laws.Loaded.{table-loads}
use Rattle.readings.specs.Samples.{Sample}
use Rattle.scatter.specs.Table.{table_of}
use Rattle.scatter.specs.laws.Entries.{table-entries}
use Rattle.ledger.specs.declared.Order.{Order}
use Rattle.ledger.specs.Refusal.{refusal_of, refusal_under, symmetric}
use Rattle.integer.specs.Matrix.{matrix_of}
use Rattle.record.specs.laws.Loading.{loads-within}
use Rattle.record.specs.Solver.{accepted_of, after_of, after_of_under}
use Rattle.record.specs.declared.solver.Solver.{Solver}

-- the record after such a call
pub after-accepted : (r : Solver) (call : Call) → refusal_of r.n r.m call ≡ 0 → after_of r call ≡ accepted_of r call
unfolding after_of_under
after-accepted r call e = rw (eq-eqb (refusal_of r.n r.m call) 0 e)

-- a state with n channels and m turns made
module _ (n m : ℕ) (h : 1 ≤ n) where
  pub loose-pair-taken : (t : ℕ) → t ≤ tolerance_limit → refusal_of n m (loose_pair t) ≡ 0
  unfolding refusal_under
  loose-pair-taken t l = rw (lt-ltb 0 n h, le-leb t tolerance_limit l)

  pub sweep-taken : (order : Order) → m + n * (n - 1) / 2 ≤ turn_limit → refusal_of n m (sweep_in order) ≡ 0
  unfolding refusal_under
  sweep-taken order l = rw (lt-ltb 0 n h, le-leb (m + n * (n - 1) / 2) turn_limit l)

pub load-taken : (n m k : ℕ) (numbers : List ℤ) → Loads k numbers → refusal_of n m (load k numbers) ≡ 0
unfolding refusal_under
load-taken n m k numbers l =
    rw (
      le-leb 2 k l.low,
      le-leb k 8 l.high,
      eq-eqb _ (k * k) l.count,
      loads-within l,
      is_true (symmetric k (matrix_of k numbers)) (symmetric-of k (matrix_of k numbers) l.same),
    )

-- the table of samples is a load that is not refused
pub table_taken : (n : ℕ) (ss : List Sample) → 2 ≤ n → n ≤ 8 → refusal_of 0 0 (load n (take (n * n) (table_of n ss).entries)) ≡ 0
table_taken n ss low high =
    rw (table-entries n ss entry_limit) (load-taken 0 0 n _ (table-loads entry_limit some-entry (le_refl entry_limit) n ss low high))

-- the pairs of a sweep, at most 28
pairs-most : (n : ℕ) → n ≤ 8 → n * (n - 1) / 2 ≤ 28
pairs-most n h = omega (arith, pairs-twice n h)

-- 'sweep with m + n(n−1)/2 > 448' does not come to pass in 16 sweeps
pub turns-suffice : (n m sweeps : ℕ) → n ≤ 8 → sweeps < 16 → m ≤ sweeps * (n * (n - 1) / 2) → m + n * (n - 1) / 2 ≤ turn_limit
turns-suffice n m sweeps h l g =
    omega (arith, g, mul-le-mul {n₁ = suc sweeps} {m₁ = n * (n - 1) / 2} {n₂ = 16} {m₂ = 28} l (pairs-most n h))
