-- `call::summed` meets its contract.
use Rattle.std.proofs.Common.{arith}
use Rattle.book.specs.Calls.{read_summary}
use Rattle.book_text.specs.inner.Played.{no_call}
use Rattle.book_text.proofs.Asking.{bare, not-bare}
use Rattle.book_text.proofs.Saying.{bare-plays, read_stays}
use Rattle.book_text.proofs.call.summed.Goals as goal

pub returns-then-not-is_empty : goal.returns-then-not-is_empty
returns-then-not-is_empty c = rw (not-bare read_summary c.args.numbers.now (λ z. search arith)) no_call

pub returns : goal.returns
returns c =
    rw (bare read_summary c.args.numbers.now (search arith))
    (bare-plays _ c.requires _ (read_stays _ c.requires) c.sums_said.ensures.0)
