-- A field as the reader goes through it, from a place of the text on.
use Rattle.std.specs.Prelude.{ℕ, ◌+◌, ◌-◌, ◌*◌, Bool, false, cond, ◌&&◌, List, [], ◌∷◌, leb, ltb, eqb, drop}
use Rattle.text.specs.inner.Numeral.{is_digit}
use Rattle.job.specs.declared.field.Field.{Field}
use Rattle.job.specs.declared.field.Field.TheVariants.{Inner, Last, Bad}

-- Another digit may follow a value from 1 to 999,999: so 7 digits at most, and none after a leading zero.
unfoldable pub may_follow : ℕ → ℕ → Bool
may_follow value b = ltb 0 value && leb value 999999 && is_digit b

unfoldable pub digits_onward : ℕ → ℕ → List ℕ → Field
digits_onward value at [] = Bad
digits_onward value at (b ∷ bs) =
    cond (eqb b 9) (Inner value (at + 1))
    (cond (eqb b 10) (Last value (at + 1)) (cond (may_follow value b) (digits_onward (value * 10 + (b - 48)) (at + 1) bs) Bad))

unfoldable pub digits_at : List ℕ → ℕ → ℕ → Field
digits_at text at value = digits_onward value at (drop at text)

unfoldable pub field_from : ℕ → List ℕ → Field
field_from at [] = Bad
field_from at (b ∷ bs) = cond (is_digit b) (digits_onward (b - 48) (at + 1) bs) Bad

unfoldable pub field_at : List ℕ → ℕ → Field
field_at text at = field_from at (drop at text)

unfoldable pub tagged_from : ℕ → List ℕ → Bool
tagged_from tag [] = false
tagged_from tag (b ∷ []) = false
tagged_from tag (b ∷ d ∷ bs) = cond (eqb b tag) (eqb d 9) false

unfoldable pub tagged_at : List ℕ → ℕ → ℕ → Bool
tagged_at text at tag = tagged_from tag (drop at text)
