-- `field_axes_panel_position` meets its contract.
use Rattle.std.proofs.Common.{◌≡◌, sym, ◌∙◌, arith}
use mir.Facts.{to_z-of_z}
use mir.Syntax.{w64}
use mir.Val.{SFits}
use borrow.Author.Rules.{rules}
use Rattle.panel.proofs.Bounds.{position-small}
use Rattle.panel.specs.Refusal.{of_panel}
use Rattle.field_axes.specs.Panels.{panel_of}
use Rattle.field_axes.proofs.Answered.{each-ok}
use Rattle.field_axes.proofs.field_axes_panel_position.Goals as goal

-- no position is above the last
pub answer-requires : goal.answer-requires
answer-requires c =
    each-ok c.position.result (λ k e. omega (arith, position-small _ _ k (sym e ∙ c.position.ensures)))

pub returns : goal.returns
returns c =
    let found : c.position.result ≡ of_panel c.args.b (panel_of c.args.a11 c.args.a12 c.args.a22) =
    rw (to_z-of_z c.ranges.b, to_z-of_z c.ranges.a11, to_z-of_z c.ranges.a12, to_z-of_z c.ranges.a22) at c.position.ensures in
    let f : SFits w64 c.answer.result = search rules in
    rw (to_z-of_z f, c.answer.ensures, found)
