-- `panel::line::run_panel` meets its contract: the matrix is symmetric and its entries are small, so that the run is allowed.
use mathlib.Core.Path.{◌∙◌}
use mir.Syntax.{w64}
use mir.Val.{SFits}
use mir.Facts.{to_z-of_z}
use borrow.Author.Rules.{rules}
use Rattle.panel.specs.Text.{panel_run}
use Rattle.panel.specs.laws.Places.{small}
use Rattle.panel.specs.laws.Text.{panel-allowed}
use Rattle.panel.proofs.line.run_panel.Goals as goal

pub run-requires : goal.run-requires
run-requires c =
    let f : SFits w64 c.args.x.a11 = search rules in
    let g : SFits w64 c.args.x.a12 = search rules in
    let h : SFits w64 c.args.x.a22 = search rules in
    rw (to_z-of_z f, to_z-of_z g, to_z-of_z h) (panel-allowed c.args.x (small 8 c.args.x c.requires))

pub returns : goal.returns
unfolding panel_run
returns c =
    let f : SFits w64 c.args.x.a11 = search rules in
    let g : SFits w64 c.args.x.a12 = search rules in
    let h : SFits w64 c.args.x.a22 = search rules in
    c.run.ensures.is ∙ rw (to_z-of_z f, to_z-of_z g, to_z-of_z h)
