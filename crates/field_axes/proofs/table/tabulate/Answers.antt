-- `table::tabulate` meets its contract.
use Rattle.std.proofs.Common.{sym, ◌∙◌}
use Rattle.std.proofs.lemmas.Result.{err_from_is_err_and}
use Rattle.text.specs.laws.Written.{not-judged}
use Rattle.field_axes.specs.laws.Readable.{readable}
use Rattle.field_axes.proofs.Answered.{given, refused}
use Rattle.field_axes.proofs.table.tabulate.Goals as goal

pub returns-in_err-check_table : goal.returns-in_err-check_table
returns-in_err-check_table c =
    let p = err_from_is_err_and c.from_residual.result c.from_residual.ensures.1 in
    rw (p.1, p.2) (refused _ _ _ _ _ (sym c.in_err-check_table.was ∙ c.check_table.ensures))

pub put_table-requires : goal.put_table-requires
put_table-requires c = readable _ _ _ _ (not-judged _ _ _ (sym c.check_table.ensures ∙ c.in_ok-check_table.was))

pub returns : goal.returns
returns c = given _ _ _ (not-judged _ _ _ (sym c.check_table.ensures ∙ c.in_ok-check_table.was)) c.put_table.ensures
