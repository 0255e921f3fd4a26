-- Panels as numbers: their text's refusals, and the panel at a position.
use Rattle.std.specs.Prelude.{ℕ, List, [], ◌∷◌, Result, Ok, Err, ℤ, nat_abs, length}
use Rattle.refusal.specs.Refusal.{number_of}
use Rattle.refusal.specs.declared.Refusal.{Refusal}
use Rattle.text.specs.Written.{or_short}
use Rattle.panel.specs.Refusal.{panel_at_position, size_refusal}
use Rattle.panel.specs.Text.{panels_text}
use Rattle.panel.specs.declared.Panel.{Panel}

abbrev pub panel_of : ℤ → ℤ → ℤ → Panel
panel_of a11 a12 a22 = record { a11 = a11; a12 = a12; a22 = a22 }

-- 2 for b, then 12 for a buffer of fewer bytes
abbrev pub panels_refusal : ℤ → ℕ → ℕ
panels_refusal b size = or_short (size_refusal b) (length (panels_text (nat_abs b))) size

-- the three entries, or none
unfoldable pub panel_numbers : Result Panel Refusal → List ℤ
panel_numbers (Ok x) = x.a11 ∷ x.a12 ∷ x.a22 ∷ []
panel_numbers (Err refusal) = []

unfoldable pub refusal_at : Result Panel Refusal → ℕ
refusal_at (Ok x) = 0
refusal_at (Err refusal) = number_of refusal

-- 2 for b and for the position, then 12 for a buffer of fewer than three numbers
abbrev pub panel_refusal : ℤ → ℤ → ℕ → ℕ
panel_refusal b position size = or_short (refusal_at (panel_at_position b position)) 3 size
