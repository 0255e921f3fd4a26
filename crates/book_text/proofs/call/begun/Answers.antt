-- `call::begun` meets its contract.
use Rattle.std.proofs.Common.{sym}
use Rattle.book.specs.Calls.{begin}
use Rattle.book_text.specs.inner.Played.{no_call}
use Rattle.book_text.proofs.Asking.{alone-is, not-alone}
use Rattle.book_text.proofs.Saying.{begin-plays}
use Rattle.book_text.proofs.call.begun.Goals as goal

pub returns-in_err-n : goal.returns-in_err-n
returns-in_err-n c = rw (c.from_residual.ensures, not-alone begin c.args.numbers.now (sym c.in_err-n.ensures)) no_call

pub returns : goal.returns
returns c = rw (alone-is begin c.args.numbers.now _ (sym c.in_ok-n.ensures)) (begin-plays _ _ _ _ c.begin.ensures c.changed.ensures)
