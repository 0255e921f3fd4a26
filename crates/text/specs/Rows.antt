-- Rows of numbers, as the writer of their lines gets them.
use Rattle.std.specs.Prelude.{ℕ, ◌*◌, ◌<◌, ◌≤◌, ◌≡◌, List, [], ℤ, length, take, get_or}
use Rattle.text.specs.Line.{number_line}
use Rattle.text.specs.Lines.{lines}

-- The line of row i: a tag and the first numbers of the row
abbrev pub row_line : ℕ → ℕ → List (List ℤ) → ℕ → List ℕ
row_line tag width rows i = number_line tag (take width (get_or rows i []))

-- Eight rows of eleven numbers
pub record Wide (rows : List (List ℤ)) : Type 0 where
  pub wide : (i : ℕ) → i < 8 → length (get_or rows i []) ≡ 11

-- The length of the lines of the first n rows, whatever their tag
pub record RowsSized (width : ℕ) (rows : List (List ℤ)) (n r : ℕ) : Type 0 where
  pub exact : (tag : ℕ) → r ≡ length (lines (row_line tag width rows) n)
  pub bounded : r ≤ 233 * n
