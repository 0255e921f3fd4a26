-- The numbers of a line of calls, of bytes: 45 is a minus, 48 to 57 are the decimal digits.
use Rattle.std.specs.Prelude.{ℕ, zero, suc, Bool, cond, not, ◌&&◌, List, [], ◌∷◌, eqb, leb, ltb, ℤ, pos, negsuc, length}
use Rattle.std.specs.Prelude.{Option, Some, None, option_and_then, option_map}
use Rattle.text.specs.Numeral.{leading_zero, value_from}
use Rattle.integer.specs.Within.{all_within}

-- README: 'decimal digits, no leading zero unless it is 0'
unfoldable pub numeral : List ℕ → Bool
numeral f = ltb 0 (length f) && (not (leading_zero f) && all_within 48 57 f)

-- README: 'of any length: one of more than 10 digits stands for 9,999,999,999, which is beyond every range'
abbrev pub digit_limit : ℕ
digit_limit = 10

abbrev pub beyond : ℕ
beyond = 9999999999

unfoldable pub stands_for : List ℕ → ℕ
stands_for f = cond (leb (length f) digit_limit) (value_from 0 f) beyond

unfoldable pub unsigned_of : List ℕ → Option ℕ
unsigned_of f = cond (numeral f) (Some (stands_for f)) None

unfoldable pub without_minus : Option ℕ → Option ℤ
without_minus None = None
without_minus (Some x) = Some (pos x)

-- '-0 is none'
unfoldable pub with_minus : Option ℕ → Option ℤ
with_minus None = None
with_minus (Some zero) = None
with_minus (Some (suc x)) = Some (negsuc x)

-- 'an optional minus'
unfoldable pub signed_of : List ℕ → Option ℤ
signed_of [] = None
signed_of (b ∷ bs) = cond (eqb b 45) (with_minus (unsigned_of bs)) (without_minus (unsigned_of (b ∷ bs)))

-- the numbers of fields, each of which has to be one
unfoldable pub each_number : List (List ℕ) → Option (List ℤ)
each_number [] = Some []
each_number (f ∷ fs) = option_and_then (λ x. option_map (λ xs. x ∷ xs) (each_number fs)) (signed_of f)
