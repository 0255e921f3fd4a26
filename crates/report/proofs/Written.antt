-- How long the report's lines are.
use Prim.Native.Nat.{ℕ, ◌+◌}
use mathlib.Core.Path.{◌≡◌}
use mathlib.Core.List.{List}
use lib.IntN.{ℤ}
use lib.ListN.{length, length-append}
use Rattle.record.specs.declared.run.Outcome.{Outcome}
use Rattle.text.specs.Line.{word_line}
use Rattle.text.specs.Lines.{lines}
use Rattle.text.specs.Rows.{row_line}
use Rattle.run.specs.Word.{outcome_word}
use Rattle.report.specs.inner.Text.{text_of}

pub text-size : (head : List ℤ) (outcome : Outcome) (axes : List (List ℤ)) (n : ℕ) →
    length (text_of head outcome axes n) ≡ length (word_line 82 head (outcome_word outcome)) + length (lines (row_line 65 (n + 3) axes) n)
unfolding text_of
text-size head outcome axes n = length-append (word_line 82 head (outcome_word outcome)) (lines (row_line 65 (n + 3) axes) n)
