-- `field_axes_panel` meets its contract.
use Rattle.std.proofs.Common.{arith}
use mir.Facts.{to_z-of_z}
use mir.Syntax.{w64}
use mir.Val.{SFits}
use borrow.Author.Rules.{rules}
use Rattle.panel.specs.Refusal.{panel_at_position}
use Rattle.field_axes.proofs.Answered.{as_number, given-fits}
use Rattle.field_axes.proofs.Paneling.{few, known}
use Rattle.field_axes.proofs.field_axes_panel.Goals as goal

pub answer-requires : goal.answer-requires
answer-requires c =
    let gives = rw (to_z-of_z c.ranges.b, to_z-of_z c.ranges.position) at c.put_panel.ensures in
    given-fits _ _ _ _ _ gives (λ e. omega (arith, few (panel_at_position c.args.b c.args.position)))

pub returns : goal.returns
returns c =
    let gives = rw (to_z-of_z c.ranges.b, to_z-of_z c.ranges.position) at c.put_panel.ensures in
    let f : SFits w64 c.answer.result = search rules in
    rw (to_z-of_z f, c.answer.ensures)
    (record { answer = as_number _ _ _ (known (panel_at_position c.args.b c.args.position) _) gives; buffer = gives.buffer })
