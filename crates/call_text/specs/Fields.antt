-- What a line's fields give, by its tag and its numbers: a tag is one byte, and so many numbers follow it at most. Any other line gives nothing.
use Rattle.std.specs.Prelude.{ℕ, cond, List, [], ◌∷◌, leb, ℤ, length}
use Rattle.std.specs.Prelude.{Option, Some, None}
use Rattle.call_text.specs.Numbers.{each_number}

module _ {C : Type 0} (given : ℕ → List ℤ → Option C) where
  unfoldable pub with_numbers : ℕ → Option (List ℤ) → Option C
  with_numbers tag None = None
  with_numbers tag (Some numbers) = given tag numbers

  unfoldable pub of_fields : ℕ → List (List ℕ) → Option C
  of_fields most [] = None
  of_fields most ([] ∷ fields) = None
  of_fields most ((tag ∷ []) ∷ fields) = cond (leb (length fields) most) (with_numbers tag (each_number fields)) None
  of_fields most ((tag ∷ b ∷ bs) ∷ fields) = None
