-- `book::Book::add` meets its contract.
use Rattle.std.specs.Prelude.{refl}
use Rattle.std.proofs.Common.{sym, ◌∙◌}
use Rattle.refusal.specs.laws.Judged.{judged-ok}
use Rattle.book.specs.Calls.{add, answer_then}
use Rattle.book.proofs.Answering.{refused, taken}
use Rattle.book.proofs.Book.add.Goals as goal

pub returns-in-Err : goal.returns-in-Err
returns-in-Err c = rw c.refused.ensures (refused c.args.self (add c.args.dilution c.args.counts.now) c.requires c.in-Err.ensures)

pub with_sample-book-requires : goal.with_sample-book-requires
with_sample-book-requires c = (c.requires, (judged-ok _ _ _ (sym c.in_default.is ∙ c.check_add.ensures)).0)

pub returns : goal.returns
unfolding answer_then
returns c =
    taken c.args.self (add c.args.dilution c.args.counts.now) c.requires (sym c.in_default.is ∙ c.check_add.ensures) c.with_sample-book.ensures refl
