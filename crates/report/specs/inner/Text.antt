-- What private functions promise: The report's lines from their values, as the writer gets them: the numbers of the R line, the outcome, and
-- eleven numbers for each A line.
use Rattle.std.specs.Prelude.{ℕ, ◌+◌, List, ◌++◌, ℤ}
use Rattle.record.specs.declared.run.Outcome.{Outcome}
use Rattle.text.specs.Line.{word_line}
use Rattle.text.specs.Lines.{lines}
use Rattle.text.specs.Rows.{row_line}
use Rattle.run.specs.Word.{outcome_word}

unfoldable pub text_of : List ℤ → Outcome → List (List ℤ) → ℕ → List ℕ
text_of head outcome axes n = word_line 82 head (outcome_word outcome) ++ lines (row_line 65 (n + 3) axes) n
