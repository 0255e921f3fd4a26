-- Lines: fields parted by one tab, each line ended by a line feed.
use Rattle.std.specs.Prelude.{ℕ, List, [], ◌∷◌, ◌++◌, map, ℤ}
use Rattle.text.specs.Decimal.{digits, number}

-- Fields that follow another: each has a tab before it.
unfoldable pub further : List (List ℕ) → List ℕ
further [] = []
further (field ∷ fields) = (9 ∷ field) ++ further fields

unfoldable pub line : List (List ℕ) → List ℕ
line [] = 10 ∷ []
line (field ∷ fields) = field ++ further fields ++ (10 ∷ [])

-- Numbers that follow a field.
unfoldable pub numbers : List ℤ → List ℕ
numbers zs = further (map number zs)

-- Numbers alone: no tab stands before the first.
unfoldable pub number_fields : List ℤ → List ℕ
number_fields [] = []
number_fields (z ∷ zs) = number z ++ numbers zs

-- A tag and numbers.
unfoldable pub number_line : ℕ → List ℤ → List ℕ
number_line tag zs = line ((tag ∷ []) ∷ map number zs)

-- A tag, numbers and a word.
unfoldable pub word_line : ℕ → List ℤ → List ℕ → List ℕ
word_line tag zs word = line ((tag ∷ []) ∷ (map number zs ++ (word ∷ [])))

-- 'one line of `X`, refusal number, line number, parted by tabs'; 88 is `X`
unfoldable pub line_x : ℕ → ℕ → List ℕ
line_x number at = line ((88 ∷ []) ∷ digits number ∷ digits at ∷ [])
