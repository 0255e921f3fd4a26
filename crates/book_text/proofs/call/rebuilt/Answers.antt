-- `call::rebuilt` meets its contract.
use Rattle.std.proofs.Common.{arith}
use Rattle.book.specs.Calls.{rebuild}
use Rattle.book_text.specs.inner.Played.{no_call}
use Rattle.book_text.proofs.Asking.{bare, not-bare}
use Rattle.book_text.proofs.Saying.{bare-plays, rebuild-stays}
use Rattle.book_text.proofs.call.rebuilt.Goals as goal

pub returns-then-not-is_empty : goal.returns-then-not-is_empty
returns-then-not-is_empty c = rw (not-bare rebuild c.args.numbers.now (λ z. search arith)) no_call

pub returns : goal.returns
returns c =
    rw (bare rebuild c.args.numbers.now (search arith))
    (bare-plays _ c.requires _ (rebuild-stays _ c.requires) c.sums_said.ensures.1)
