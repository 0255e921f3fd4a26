-- `book::Book::table` meets its contract.
use Rattle.std.specs.Prelude.{Ok}
use Rattle.std.proofs.Common.{sym, ap, ◌∙◌}
use Rattle.std.proofs.lemmas.Result.{err_from_is_err_and}
use Rattle.scatter.specs.BySums.{scatter_by_sums}
use Rattle.scatter.specs.Table.{table_from}
use Rattle.scatter.specs.laws.BySums.{table-by-sums}
use Rattle.refusal.specs.laws.Judged.{judged-alike, judged-ok, judged-taken}
use Rattle.book.specs.Book.{samples_in}
use Rattle.book.specs.Done.{table_to}
use Rattle.book.specs.laws.Calls.{summary-held}
use Rattle.book.specs.laws.Held.{summary-bounded}
use Rattle.book.proofs.Book.table.Goals as goal

pub returns-in_err-check_table : goal.returns-in_err-check_table
unfolding table_to
returns-in_err-check_table c =
    let p = err_from_is_err_and c.from_residual.result c.from_residual.ensures.1 in
    rw (p.1, p.2) (judged-alike _ _ _ _ (sym c.in_err-check_table.was ∙ c.check_table.ensures))

pub table_of-requires : goal.table_of-requires
table_of-requires c = (c.requires.channels, summary-bounded c.args.self c.requires)

pub returns : goal.returns
unfolding table_to
returns c =
    let made = c.table_of.ensures ∙ ap (λ t. table_from (scatter_by_sums c.args.self.n t)) (summary-held c.args.self c.requires)
    ∙ table-by-sums (samples_in c.args.self) c.args.self.n c.requires.channels in
    ap Ok made ∙ judged-taken _ _ (judged-ok _ _ _ (sym c.in_ok-check_table.was ∙ c.check_table.ensures)).0
