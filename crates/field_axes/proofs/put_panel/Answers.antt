-- `put_panel` meets its contract: 2, then 12, then the entries.
use Rattle.std.proofs.Common.{sym, ◌∙◌}
use Rattle.std.proofs.lemmas.Result.{err_from_is_err_and}
use mir.Facts.{to_z-of_z}
use mir.Syntax.{w64}
use mir.Val.{SFits}
use borrow.Author.Rules.{rules}
use Rattle.field_axes.proofs.Paneling.{panel-refused, panel-short, panel-written}
use Rattle.field_axes.proofs.put_panel.Goals as goal

pub returns-in_err-x : goal.returns-in_err-x
returns-in_err-x c =
    let p = err_from_is_err_and c.from_residual.result c.from_residual.ensures.1 in
    rw (p.1, p.2)
    (panel-refused _ _ _ (sym (rw (to_z-of_z c.ranges.b, to_z-of_z c.ranges.position) at c.panel_at.ensures) ∙ c.in_err-x.was))

pub returns-then-out-lt3 : goal.returns-then-out-lt3
returns-then-out-lt3 c =
    panel-short _ _ _ (sym (rw (to_z-of_z c.ranges.b, to_z-of_z c.ranges.position) at c.panel_at.ensures) ∙ c.in_ok-x.was) c.if-out-lt3.true

pub returns : goal.returns
returns c =
    let x = c.in_ok-x.x in
    let f : SFits w64 x.a11 = search rules in
    let g : SFits w64 x.a12 = search rules in
    let h : SFits w64 x.a22 = search rules in
    panel-written _ _ _ (sym (rw (to_z-of_z c.ranges.b, to_z-of_z c.ranges.position) at c.panel_at.ensures) ∙ c.in_ok-x.was) c.if-out-lt3.false
    (rw (to_z-of_z f, to_z-of_z g, to_z-of_z h) at c.put.ensures)
