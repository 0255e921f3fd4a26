-- What the private readers answer, by the definitions that they answer of.
use Rattle.std.specs.Prelude.{ℕ, List, ◌≡◌, ℤ, Option, Some, length}
use Rattle.text.specs.Parts.{split}
use Rattle.call_text.specs.Fields.{of_fields}
use Rattle.call_text.specs.Requests.{left_in}
use Rattle.call_text.specs.declared.line.Fields.{Fields}

-- a line's tag, and how many numbers follow it
unfoldable pub counted : ℕ → List ℤ → Option Fields
counted tag numbers = Some (record { tag = tag; count = length numbers })

unfoldable pub fields_by : ℕ → List (List ℕ) → Option Fields
fields_by most fields = of_fields counted most fields

pub record FieldsRead (line : List ℕ) (entry exit : List ℤ) (z : Option Fields) : Type 0 where
  pub is : z ≡ fields_by (length entry) (split 9 line)
  pub leaves : exit ≡ left_in entry line
