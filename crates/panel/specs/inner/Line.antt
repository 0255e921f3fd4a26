-- What private functions promise: the numbers of a panel's line, and the outcome of its run.
use Rattle.std.specs.Prelude.{◌≡◌}
use Rattle.panel.specs.Text.{line_numbers, panel_run}
use Rattle.panel.specs.declared.Panel.{Panel}
use Rattle.panel.specs.declared.line.LineFields.{LineFields}

pub record FieldsOf (x : Panel) (z : LineFields) : Type 0 where
  pub numbers : z.numbers ≡ line_numbers x
  pub outcome : z.outcome ≡ (panel_run x).outcome
