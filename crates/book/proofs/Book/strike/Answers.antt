-- `book::Book::strike` meets its contract.
use Rattle.std.specs.Prelude.{refl}
use Rattle.std.proofs.Common.{sym, ◌∙◌}
use Rattle.refusal.specs.laws.Judged.{judged-ok}
use Rattle.book.specs.Calls.{answer_then, strike}
use Rattle.book.proofs.Answering.{refused, taken}
use Rattle.book.proofs.Book.strike.Goals as goal

pub returns-in-Err : goal.returns-in-Err
returns-in-Err c = rw c.refused.ensures (refused c.args.self (strike c.args.i) c.requires c.in-Err.ensures)

pub without_sample-book-requires : goal.without_sample-book-requires
without_sample-book-requires c = (c.requires, (judged-ok _ _ _ (sym c.in_default.is ∙ c.check_strike.ensures)).0)

pub returns : goal.returns
unfolding answer_then
returns c = taken c.args.self (strike c.args.i) c.requires (sym c.in_default.is ∙ c.check_strike.ensures) c.without_sample-book.ensures refl
