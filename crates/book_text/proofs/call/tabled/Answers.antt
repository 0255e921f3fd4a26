-- `call::tabled` meets its contract.
use Rattle.std.proofs.Common.{arith}
use Rattle.book.specs.Calls.{make_table}
use Rattle.book_text.specs.inner.Played.{no_call}
use Rattle.book_text.proofs.Asking.{bare, not-bare}
use Rattle.book_text.proofs.Saying.{bare-plays, table_stays}
use Rattle.book_text.proofs.call.tabled.Goals as goal

pub returns-then-not-is_empty : goal.returns-then-not-is_empty
returns-then-not-is_empty c = rw (not-bare make_table c.args.numbers.now (λ z. search arith)) no_call

pub returns : goal.returns
returns c =
    rw (bare make_table c.args.numbers.now (search arith))
    (bare-plays _ c.requires _ (table_stays _ c.requires) c.table_said.ensures)
