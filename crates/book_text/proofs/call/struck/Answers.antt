-- `call::struck` meets its contract.
use Rattle.std.proofs.Common.{sym}
use Rattle.book.specs.Calls.{strike}
use Rattle.book_text.specs.inner.Played.{no_call}
use Rattle.book_text.proofs.Asking.{alone-is, not-alone}
use Rattle.book_text.proofs.Saying.{strike-plays}
use Rattle.book_text.proofs.call.struck.Goals as goal

pub returns-in_err-i : goal.returns-in_err-i
returns-in_err-i c = rw (c.from_residual.ensures, not-alone strike c.args.numbers.now (sym c.in_err-i.ensures)) no_call

pub returns : goal.returns
returns c = rw (alone-is strike c.args.numbers.now _ (sym c.in_ok-i.ensures)) (strike-plays _ _ _ _ c.strike.ensures c.changed.ensures)
