-- `panel::line::line_length` meets its contract: the word's tab stands for that of the first number.
use mathlib.Core.Path.{ap, ◌∙◌}
use native.Mathlib.Omega.{arith}
use lib.ListN.{length}
use Rattle.run.specs.Word.{outcome_word}
use Rattle.text.specs.Line.{numbers}
use Rattle.panel.specs.Text.{line_numbers}
use Rattle.panel.specs.laws.Places.{small}
use Rattle.panel.specs.laws.Text.{line-few, line-length}
use Rattle.panel.proofs.line.line_length.Goals as goal

pub returns : goal.returns
unfolding line_numbers
returns c =
    let n = c.numbers_length.ensures.exact ∙ ap (λ l. length (numbers l)) c.line_fields-fields.ensures.numbers in
    let w = ap length c.word_of.ensures ∙ ap (λ o. length (outcome_word o)) c.line_fields-fields.ensures.outcome in
    record {
      exact = omega (arith, n, w, line-length c.args.x);
      bounded = omega (arith, n, w, line-length c.args.x, line-few c.args.x (small 8 c.args.x c.requires));
    }
