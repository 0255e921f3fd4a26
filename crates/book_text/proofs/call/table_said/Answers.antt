-- `call::table_said` meets its contract.
use Rattle.std.proofs.Common.{◌∙◌}
use Rattle.book.specs.Calls.{make_table}
use Rattle.book.specs.Done.{table_to}
use Rattle.sums.specs.Sums.{sums_of}
use Rattle.book_text.proofs.Saying.{refused-text, table-held, table-says}
use Rattle.book_text.proofs.call.table_said.Goals as goal

pub table_page-requires : goal.table_page-requires
unfolding sums_of
table_page-requires c = (
  rw c.channels.ensures c.requires.channels,
  rw c.summary.ensures c.requires.number,
  (_, table-held c.args.b c.in-Ok.ensures c.channels.ensures),
)

pub returns-in-Ok : goal.returns-in-Ok
returns-in-Ok c = table-says c.args.b c.in-Ok.ensures c.channels.ensures c.summary.ensures c.table_page.ensures

pub returns-in-Err : goal.returns-in-Err
unfolding table_to
returns-in-Err c = c.refused.ensures ∙ refused-text c.args.b make_table _ _ c.in-Err.ensures
