-- `report::axes::own_axis` meets its contract: the axis call is not refused.
use mir.Syntax.{w64}
use mir.Val.{SFits}
use mir.Facts.{to_z-of_z}
use Rattle.std.proofs.Common.{sym, ◌∙◌, rules}
use Rattle.report.specs.laws.AxisNumbers.{axis-answer}
use Rattle.report.proofs.axes.own_axis.Goals as goal

pub returns-in_default : goal.returns-in_default
returns-in_default c =
    absurd (c.in_default.not-Axis _ _ (c.axis.ensures.answers ∙ axis-answer c.args.r _ c.requires.1 c.requires.2))

pub returns : goal.returns
returns c =
    let h : SFits w64 c.in-Axis.entry = search rules in
    (rw (to_z-of_z h) (sym c.in-Axis.is ∙ c.axis.ensures.answers), c.axis.ensures.row)
