-- The text of a table as its writer gets it.
use Rattle.std.specs.Prelude.{ℕ, ◌+◌, List, ◌++◌, ℤ}
use Rattle.text.specs.Line.{number_line}
use Rattle.text.specs.Lines.{lines}
use Rattle.text.specs.Rows.{row_line}

-- The text of the numbers of its first line and of its rows
unfoldable pub text_of_rows : List ℤ → ℕ → List (List ℤ) → List ℕ
text_of_rows head n rows = number_line 84 head ++ lines (row_line 83 (n + 1) rows) n
