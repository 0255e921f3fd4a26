-- Row after row, as the closure gives it.
use Rattle.std.proofs.Common.{[], of_calls}
use Rattle.sums.specs.laws.Made.{made}
use Rattle.job_table.specs.inner.Rows.{table_row, table_rows}
use Rattle.job_table.proofs.rows.rows_of.Goals as goal

pub returns : goal.returns
unfolding table_rows
returns c = made _ _ (table_row c.args.n c.args.sums.now) 8 [] (λ i y q l w. search of_calls parts 8) _ c.from_fn.ensures.items
