-- `field_axes_solve` meets its contract.
use Rattle.std.proofs.Common.{arith}
use mir.Facts.{to_z-of_z}
use mir.Syntax.{w64}
use mir.Val.{SFits}
use borrow.Author.Rules.{rules}
use Rattle.field_axes.specs.laws.Solvable.{length-small, solvable}
use Rattle.field_axes.proofs.Answered.{as_number, given-fits}
use Rattle.field_axes.proofs.Numbers.{solve-known}
use Rattle.field_axes.proofs.field_axes_solve.Goals as goal

-- the numbers are few
pub answer-requires : goal.answer-requires
answer-requires c =
    let a = c.args in
    given-fits _ _ _ _ _ c.solve.ensures
    (λ e. omega (arith, length-small a.n a.numbers.now a.limit a.tolerance _ (solvable a.n a.numbers.now a.limit a.tolerance _ e)))

pub returns : goal.returns
returns c =
    let a = c.args in
    let f : SFits w64 c.answer.result = search rules in
    rw (to_z-of_z f, c.answer.ensures)
    (record { answer = as_number _ _ _ (solve-known a.n a.numbers.now a.limit a.tolerance _) c.solve.ensures; buffer = c.solve.ensures.buffer })
