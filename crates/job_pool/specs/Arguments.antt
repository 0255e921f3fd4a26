-- The arguments of the program `pool`: two names of files that can be opened, and no third. The number of the first argument that is not so.
use Rattle.std.specs.Prelude.{ℕ, Bool, cond, List, [], ◌∷◌, Option, None, Some, leb, pos}
use Rattle.text.specs.Line.{number_line}

-- whether the file of the first could be opened, of the second, and how many words the program was started with, its own name among them
unfoldable pub wrong_argument : Bool → Bool → ℕ → Option ℕ
wrong_argument first second words = cond first (cond second (cond (leb words 3) None (Some 3)) (Some 2)) (Some 1)

-- 63 is `?`
unfoldable pub wrong_argument_line : ℕ → List ℕ
wrong_argument_line number = number_line 63 (pos number ∷ [])
