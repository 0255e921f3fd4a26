-- `panel::line::line_fields` meets its contract: what the run has counted is at most 16.
use mathlib.Core.Path.{◌≡◌, ap}
use mathlib.Core.Bool.{true}
use Prim.Native.Nat.{◌≤◌}
use native.Mathlib.Omega.{arith}
use mir.Syntax.{w64}
use mir.Val.{SFits}
use mir.Facts.{to_z-of_z}
use Rattle.std.proofs.lemmas.Int.{to_z_pos}
use borrow.Author.Rules.{rules}
use Rattle.record.specs.Run.{Run}
use Rattle.panel.specs.Listed.{panel_within}
use Rattle.panel.specs.Refusal.{most_size}
use Rattle.panel.specs.Text.{line_numbers, panel_run}
use Rattle.panel.specs.declared.Panel.{Panel}
use Rattle.panel.specs.laws.Places.{small}
use Rattle.panel.specs.laws.Text.{sweeps-most, turns-most}
use Rattle.panel.proofs.line.line_fields.Goals as goal

-- what the run has counted
module _ (x : Panel) (within : panel_within most_size x ≡ true) (z : Run) (is : z ≡ panel_run x) where
  swept : z.sweeps ≤ 16
  swept = rw is (sweeps-most x (small 8 x within))

  turned : z.last.solver.m ≤ 16
  turned = rw is (turns-most x (small 8 x within))

pub overflow_cast-numbers : goal.overflow_cast-numbers
overflow_cast-numbers c = record { sfits = omega (arith, swept c.args.x c.requires _ c.run_panel-run.ensures) }

pub overflow_cast-numbers-2 : goal.overflow_cast-numbers-2
overflow_cast-numbers-2 c = record { sfits = omega (arith, turned c.args.x c.requires _ c.run_panel-run.ensures) }

pub returns : goal.returns
unfolding line_numbers
returns c =
    let run = c.run_panel-run.ensures in
    let f : SFits w64 c.args.x.a11 = search rules in
    let g : SFits w64 c.args.x.a12 = search rules in
    let h : SFits w64 c.args.x.a22 = search rules in
    record {
      numbers =
          rw (
            to_z-of_z f,
            to_z-of_z g,
            to_z-of_z h,
            to_z_pos w64 c.run_panel-run.result.sweeps (omega (arith, swept c.args.x c.requires _ run)),
            to_z_pos w64 c.turns.result (omega (arith, turned c.args.x c.requires _ run)),
            c.turns.ensures,
            run,
          );
      outcome = ap (λ (z : Run). z.outcome) run;
    }
