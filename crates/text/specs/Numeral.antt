-- Decimal numbers as they are read: 48 to 57 are the decimal digits.
use Rattle.std.specs.Prelude.{ℕ, ◌+◌, ◌-◌, ◌*◌, Bool, false, ◌&&◌, List, [], ◌∷◌, eqb, ltb, length}

unfoldable pub leading_zero : List ℕ → Bool
leading_zero [] = false
leading_zero (b ∷ bs) = eqb b 48 && ltb 0 (length bs)

-- The value of digits that follow digits of the value v.
unfoldable pub value_from : ℕ → List ℕ → ℕ
value_from v [] = v
value_from v (b ∷ bs) = value_from (v * 10 + (b - 48)) bs
