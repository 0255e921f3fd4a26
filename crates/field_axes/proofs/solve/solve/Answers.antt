-- `solve::solve` meets its contract.
use Rattle.std.proofs.Common.{sym, ◌∙◌}
use Rattle.std.proofs.lemmas.Result.{err_from_is_err_and}
use Rattle.text.specs.laws.Written.{not-judged}
use Rattle.field_axes.specs.laws.Solvable.{solvable}
use Rattle.field_axes.proofs.Answered.{given, refused}
use Rattle.field_axes.proofs.solve.solve.Goals as goal

pub returns-in_err-check_solve : goal.returns-in_err-check_solve
returns-in_err-check_solve c =
    let p = err_from_is_err_and c.from_residual.result c.from_residual.ensures.1 in
    rw (p.1, p.2) (refused _ _ _ _ _ (sym c.in_err-check_solve.was ∙ c.check_solve.ensures))

pub put_solution-requires : goal.put_solution-requires
put_solution-requires c = solvable _ _ _ _ _ (not-judged _ _ _ (sym c.check_solve.ensures ∙ c.in_ok-check_solve.was))

pub returns : goal.returns
returns c = given _ _ _ (not-judged _ _ _ (sym c.check_solve.ensures ∙ c.in_ok-check_solve.was)) c.put_solution.ensures
