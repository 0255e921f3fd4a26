-- `season_report::line::line_length` meets its contract.
use mathlib.Core.Path.{sym, ◌∙◌}
use native.Mathlib.Omega.{arith}
use Rattle.season_report.specs.laws.Text.{line-length}
use Rattle.season_report.proofs.line.line_length.Goals as goal

pub returns : goal.returns
returns c =
    let zs = c.args.numbers.now in
    record {
      exact =
          c.numbers_length.ensures.exact ∙ sym (line-length zs (omega (arith, c.requires)));
      bounded = omega (arith, c.numbers_length.ensures.bounded, c.requires);
    }
