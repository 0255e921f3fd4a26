-- In a row and a column the pairs from there on are left. The inner loop knows the work as it was where it began.
use Rattle.ledger.specs.Order.{pairs_in}
use Rattle.record.proofs.Sweeping.{Sweeping}
use Rattle.record.specs.inner.Orders.{first_in, pairs_left_in, rows_left_in}
use Rattle.record.proofs.work.Work.sweep_in.Given as goal

abbrev pub invariant-loop-column : goal.invariant-loop-column
invariant-loop-column l =
    Sweeping l.initial.self (pairs_left_in l.order l.fn.self.n l.row (first_in l.order l.row)) l.self
    (pairs_left_in l.order l.fn.self.n l.row l.column)

abbrev pub invariant-loop-row : goal.invariant-loop-row
invariant-loop-row l =
    Sweeping l.fn.self (pairs_in l.order l.fn.self.n) l.self (rows_left_in l.order l.fn.self.n l.row)
