-- What private functions promise: the lines of all samples, and job text by the arrays that the writer has for its first and last lines.
use Rattle.std.specs.Prelude.{ℕ, List, ◌++◌, ℤ, length}
use Rattle.text.specs.Line.{number_line}
use Rattle.text.specs.Lines.{lines}
use Rattle.job_text.specs.JobText.{sample_line}

abbrev pub sample_lines : ℕ → List ℕ → List ℕ → List ℕ
sample_lines n dilutions counts = lines (sample_line n dilutions counts) (length dilutions)

-- 80 is `P`, and 69 is `E`.
unfoldable pub text_of_lines : List ℤ → ℕ → List ℕ → List ℕ → List ℤ → List ℕ
text_of_lines first n dilutions counts last = number_line 80 first ++ sample_lines n dilutions counts ++ number_line 69 last
