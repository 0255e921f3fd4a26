-- Worked examples: the greatest u64 and the least i64.
use Rattle.std.specs.Prelude.{◌≡◌, refl, [], ◌∷◌, negsuc}
use Rattle.text.specs.Decimal.{digits_by, digits, number}

zero-digit : digits 0 ≡ 48 ∷ []
unfolding digits digits_by
zero-digit = refl

greatest : digits 18446744073709551615 ≡ 49 ∷ 56 ∷ 52 ∷ 52 ∷ 54 ∷ 55 ∷ 52 ∷ 52 ∷ 48 ∷ 55 ∷ 51 ∷ 55 ∷ 48 ∷ 57 ∷ 53 ∷ 53 ∷ 49 ∷ 54 ∷ 49 ∷ 53 ∷ []
unfolding digits digits_by
greatest = refl

least : number (negsuc 9223372036854775807) ≡ 45 ∷ 57 ∷ 50 ∷ 50 ∷ 51 ∷ 51 ∷ 55 ∷ 50 ∷ 48 ∷ 51 ∷ 54 ∷ 56 ∷ 53 ∷ 52 ∷ 55 ∷ 55 ∷ 53 ∷ 56 ∷ 48 ∷ 56 ∷ []
unfolding number digits digits_by
least = refl
