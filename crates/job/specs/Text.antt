-- The lines, fields and numbers of job text. A text is the list of its bytes: 9 is a tab, 10 a line feed, 48 to 57 are the decimal digits.
use Rattle.std.specs.Prelude.{ℕ, zero, suc, Bool, false, cond, not, ◌&&◌, List, [], ◌∷◌, leb, ltb, eqb, length}
use Rattle.std.proofs.Math.Option.{Option, none, some}
use Rattle.text.specs.Numeral.{leading_zero, value_from}
use Rattle.text.specs.Parts.{before, split}
use Rattle.integer.specs.Within.{all_within}
use Rattle.limits.specs.Limits.{most_digits}

-- "A number is 1 to 7 decimal digits without a sign, and without a leading zero unless it is 0."
unfoldable pub number_in : List ℕ → Option ℕ
number_in f = cond (ltb 0 (length f) && leb (length f) most_digits && all_within 48 57 f && not (leading_zero f)) (some (value_from 0 f)) none

-- The numbers of m fields, each of which has to be one.
unfoldable pub numbers_of : ℕ → List (List ℕ) → Option (List ℕ)
numbers_of zero [] = some []
numbers_of zero (f ∷ fs) = none
numbers_of (suc m) [] = none
numbers_of (suc m) (f ∷ fs) = before (number_in f) (numbers_of m fs)

unfoldable pub is_tag : ℕ → List ℕ → Bool
is_tag tag [] = false
is_tag tag (b ∷ bs) = eqb b tag && eqb (length bs) 0

unfoldable pub record_of : ℕ → ℕ → List (List ℕ) → Option (List ℕ)
record_of tag m [] = none
record_of tag m (f ∷ fs) = cond (is_tag tag f) (numbers_of m fs) none

-- The m numbers of a line with this tag. "Fields parted by one tab."
unfoldable pub line_of : ℕ → ℕ → List ℕ → Option (List ℕ)
line_of tag m line = record_of tag m (split 9 line)
