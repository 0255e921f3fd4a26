use Rattle.std.proofs.Common.{◌≡◌, ◌≤◌, ◌<◌, ℕ, ◌∙◌, ap, arith, length}
use Rattle.ledger.specs.Order.{pairs_in}
use Rattle.ledger.specs.declared.Order.{Order}
use Rattle.record.proofs.Orders.{all-left-in, none-left-in, one_place, row-begins-in, row-ends-in}
use Rattle.record.proofs.Sweeping.{ended, started, then}
use Rattle.record.specs.inner.Orders.{Within, columns_in, first_in, rows_in}
use Rattle.record.specs.laws.After.{sweep-fits}
use Rattle.record.proofs.work.Work.sweep_in.Goals as goal

pub loop-row-init : goal.loop-row-init
loop-row-init c =
    let ready = c.requires.2 in
    rw (← all-left-in _ c.requires.0 ready.size c.args.order)
    (started _ (pairs_in c.args.order c.args.self.now.n) ready.kept ready.matrix ready.axes)

-- a row and a column that the loops come to
module _ (order : Order) (n rows columns row column : ℕ) (some : 1 ≤ n) (high : n ≤ 8) (r : rows ≡ rows_in order n)
    (k : columns ≡ columns_in order n) where
  within : row < rows → first_in order row ≤ column → column < columns → Within order n row column
  within h f l = record { some = some; high = high; row_within = rw r at h; first = f; column-within = rw k at l }

pub place-requires : goal.place-requires
place-requires c =
    let ready = c.requires.2 in
    let size = c.loop-column.invariant.size ∙ c.loop-row.invariant.size in
    let row_within = rw c.rows_of-rows.ensures at c.loop-row-test.true in
    let begins = row-begins-in _ c.requires.0 ready.size c.loop-row.row c.args.order row_within in (
      rw size
          (within c.args.order _ _ _ c.loop-row.row c.loop-column.column c.requires.0 ready.size c.rows_of-rows.ensures
          c.columns_of-columns.ensures c.loop-row-test.true (rw c.first_of-column.ensures at c.loop-column.auto.column) c.loop-column-test.true),
      record {
        size = rw size ready.size;
        kept = c.loop-column.invariant.kept;
        few = omega (
          arith,
          c.loop-column.invariant.few,
          c.loop-row.invariant.few,
          ap length begins,
          sweep-fits c.args.order c.args.self.now.m c.args.self.now.n ready.size c.requires.1,
        );
        matrix = c.loop-column.invariant.matrix;
        axes = c.loop-column.invariant.axes;
      },
    )

pub loop-column-preserved : goal.loop-column-preserved
loop-column-preserved c =
    one_place c.args.order _ c.loop-row.row c.loop-column.column
    (within c.args.order _ _ _ c.loop-row.row c.loop-column.column c.requires.0 c.requires.2.size c.rows_of-rows.ensures
    c.columns_of-columns.ensures c.loop-row-test.true (rw c.first_of-column.ensures at c.loop-column.auto.column) c.loop-column-test.true)
    _ _ _ _ (c.loop-column.invariant.size ∙ c.loop-row.invariant.size) c.loop-column.invariant c.place.ensures

pub loop-row-preserved : goal.loop-row-preserved
loop-row-preserved c =
    let ready = c.requires.2 in
    let row_within = rw c.rows_of-rows.ensures at c.loop-row-test.true in
    let begins = row-begins-in _ c.requires.0 ready.size c.loop-row.row c.args.order row_within in
    let ends =
    row-ends-in _ c.requires.0 ready.size c.loop-row.row c.args.order c.loop-column.column row_within
    (rw c.columns_of-columns.ensures at c.loop-column-test.false) in
    then (rw begins at c.loop-row.invariant) (rw ends at c.loop-column.invariant)

pub returns : goal.returns
returns c =
    let none =
    none-left-in _ c.requires.0 c.requires.2.size c.args.order c.loop-row.row (rw c.rows_of-rows.ensures at c.loop-row-test.false) in
    ended _ _ _ (rw none at c.loop-row.invariant)
