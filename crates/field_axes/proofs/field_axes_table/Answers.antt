-- `field_axes_table` meets its contract.
use Rattle.std.proofs.Common.{arith}
use mir.Facts.{to_z-of_z}
use mir.Syntax.{w64}
use mir.Val.{SFits}
use borrow.Author.Rules.{rules}
use Rattle.limits.specs.laws.Channels.{places}
use Rattle.field_axes.specs.laws.Readable.{length-table, readable}
use Rattle.field_axes.proofs.Answered.{as_number, given-fits}
use Rattle.field_axes.proofs.Numbers.{table-known}
use Rattle.field_axes.proofs.field_axes_table.Goals as goal

-- the numbers are few
pub answer-requires : goal.answer-requires
answer-requires c =
    let a = c.args in
    given-fits _ _ _ _ _ c.tabulate.ensures (λ e.
    let h = (readable a.n a.dilutions.now a.counts.now _ e).readings.channels in
    rw (length-table a.n a.dilutions.now a.counts.now h) (omega (arith, places a.n h)))

pub returns : goal.returns
returns c =
    let a = c.args in
    let f : SFits w64 c.answer.result = search rules in
    rw (to_z-of_z f, c.answer.ensures)
    (record { answer = as_number _ _ _ (table-known a.n a.dilutions.now a.counts.now _) c.tabulate.ensures; buffer = c.tabulate.ensures.buffer })
