-- Demand 3: for every list of calls, whichever benches they name, the record agrees with a ledger that is fed the calls alone, and matrix, axes and
-- every printed error are within their bounds of the exact rotation. The bounds are those of ledger/specs/Near, over whole numbers.
use Rattle.std.specs.Prelude.{◌≡◌, true, List, ℕ, ◌-◌, ◌≤◌, ◌<◌}
use Rattle.integer.specs.Matrix.{Same}
use Rattle.limits.specs.Limits.{entry_limit, former_entry_limit}
use Rattle.ledger.specs.Bench.{NamedCall, by, is_bench}
use Rattle.ledger.specs.Call.{axis}
use Rattle.ledger.specs.Ledger.{Ledger, State, empty, loaded, ledger, ledger_from, ledger_from_under}
use Rattle.ledger.specs.Near.{MatrixNear, AxesNear, RowNear}
use Rattle.record.specs.declared.query.Answer.TheVariants.{Axis}
use Rattle.record.specs.Flat.{entries_of, kept_entry}
use Rattle.record.specs.Kept.{Kept}
use Rattle.record.specs.Record.{after, after_from, after_from_under, answer_to, fresh, row_to}
use Rattle.record.specs.declared.Record.{Record}

-- axis i, from 1
pub record AxisNear (r : Record) (s : State) (i : ℕ) : Type 0 where
  pub error : ℕ
  -- 'a_ii, its error r_i, and row i of v': the axis call of every bench answers the kept entry, one error and the kept row
  pub answers : (bench : ℕ) → is_bench bench ≡ true → answer_to r (by bench (axis i)) ≡ Axis (kept_entry r.solver.a (i - 1) (i - 1)) error
  pub row : (bench : ℕ) → is_bench bench ≡ true → row_to r (by bench (axis i)) ≡ entries_of r.solver.v (i - 1)
  -- document 02, W5: 'the exact row of Q times S/2^e, against that row times the kept diagonal entry'
  pub near : RowNear s.n s.D s.P s.S s.e (i - 1) (kept_entry r.solver.a (i - 1) (i - 1)) error

pub record Certified (r : Record) (s : State) : Type 0 where
  -- the record holds a matrix, with the ledger's n and m
  pub held : 0 < r.solver.n
  pub size : r.solver.n ≡ s.n
  pub turns : r.solver.m ≡ s.m
  -- document 02, W5: 'demand 3 compares e too'
  pub shift : r.solver.e ≡ s.e
  -- 'The kept matrix and axes are the record's a and v; they equal B and V'
  pub matrix : Same s.n (kept_entry r.solver.a) s.B
  pub axes : Same s.n (kept_entry r.solver.v) s.axes
  -- matrix, axes and every printed error are within their bounds of the exact rotation
  pub matrix-near : MatrixNear s.n s.m s.D s.P s.A (kept_entry r.solver.a)
  pub axes-near : AxesNear s.n s.m s.D s.P (kept_entry r.solver.v)
  pub rows-near : (i : ℕ) → 1 ≤ i → i ≤ s.n → AxisNear r s i

-- the record holds a matrix exactly when the ledger does
unfoldable pub Certifies : Record → Ledger → Type 0
Certifies r empty = r.solver.n ≡ 0
Certifies r (loaded s) = Certified r s

abbrev pub Demand-3 : Type 0
Demand-3 = (calls : List NamedCall) → Certifies (after calls) (ledger calls)

-- Document 02, W9: 'A record loaded under the old limit goes on under the new one with its matrix, axes, m and e unchanged, and its ledger goes on
-- with it, unchanged too'. Calls under a limit from the old one to today's, then calls under today's: the record and the ledger that the first list
-- leaves are what the second starts from, as they are. The record is one that every call takes (`Kept`).
abbrev pub Goes_on : Type 0
Goes_on =
    (limit : ℕ) → former_entry_limit ≤ limit → limit ≤ entry_limit → (before later : List NamedCall) →
    Kept (after_from_under limit fresh before) ×
    Certifies (after_from (after_from_under limit fresh before) later) (ledger_from (ledger_from_under limit empty before) later)
