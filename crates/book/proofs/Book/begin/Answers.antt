-- `book::Book::begin` meets its contract.
use Rattle.std.specs.Prelude.{refl}
use Rattle.std.proofs.Common.{sym, ◌∙◌}
use Rattle.refusal.specs.laws.Judged.{judged-ok}
use Rattle.book.specs.Calls.{answer_then, begin, book_refusal}
use Rattle.book.proofs.Answering.{after-begun, refused, taken}
use Rattle.book.proofs.Book.begin.Goals as goal

pub returns-in-Err : goal.returns-in-Err
unfolding book_refusal
returns-in-Err c = rw c.refused.ensures (refused c.args.self (begin c.args.n) c.requires c.in-Err.ensures)

pub returns : goal.returns
unfolding book_refusal answer_then
returns c =
    let e = sym c.in_default.is ∙ c.check_channels.ensures in
    taken c.args.self (begin c.args.n) c.requires e
    (c.empty_book.ensures ∙ sym (after-begun c.args.self c.requires c.args.n (judged-ok _ _ _ e).0)) refl
