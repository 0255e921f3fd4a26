-- `panel::line::put_line` meets its contract: the numbers and the word are those of the panel's line.
use mathlib.Core.Path.{ap, ◌∙◌}
use native.Mathlib.Omega.{arith}
use Rattle.run.specs.Word.{outcome_word}
use Rattle.panel.specs.Text.{line_numbers, panel_line}
use Rattle.panel.proofs.line.put_line.Goals as goal

pub put_fields-requires : goal.put_fields-requires
unfolding panel_line line_numbers
put_fields-requires c =
    let word = c.word_of.ensures ∙ ap outcome_word c.line_fields-fields.ensures.outcome in
    rw (word, c.line_fields-fields.ensures.numbers) (omega arith, c.requires.1)

pub returns : goal.returns
unfolding panel_line
returns c =
    let word = c.word_of.ensures ∙ ap outcome_word c.line_fields-fields.ensures.outcome in
    rw (word, c.line_fields-fields.ensures.numbers) at c.put_fields.ensures
