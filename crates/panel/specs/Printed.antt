-- What the program `panels` prints for its argument b: the text; `X` and 2 for a b outside 0 to 8; `?` for an argument that is no whole number. A
-- number is one of call_text/specs/Numbers: an optional minus, decimal digits, no leading zero, of any length.
use Rattle.std.specs.Prelude.{ℕ, zero, suc, List, [], ◌∷◌, Option, Some, None, ℤ, pos, nat_abs}
use Rattle.call_text.specs.Numbers.{signed_of}
use Rattle.text.specs.Line.{number_line}
use Rattle.panel.specs.Refusal.{size_refusal}
use Rattle.panel.specs.Text.{panels_text}

-- the text, or the line of a refusal; 88 is `X`
unfoldable pub text_or : ℕ → List ℕ → List ℕ
text_or zero text = text
text_or (suc number) text = number_line 88 (pos (suc number) ∷ [])

-- 63 is `?`
unfoldable pub printed_for_size : Option ℤ → List ℕ
printed_for_size None = number_line 63 []
printed_for_size (Some b) = text_or (size_refusal b) (panels_text (nat_abs b))

unfoldable pub panels_printed : List ℕ → List ℕ
panels_printed argument = printed_for_size (signed_of argument)
