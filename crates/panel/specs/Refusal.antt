-- Document 02, W13: 'A b outside 0 to 8 gives 2, as do a position outside 1 to (2b+1)^3 and an entry beyond ±b'.
use Rattle.std.specs.Prelude.{ℕ, Bool, false, cond, Result, Ok, Err, ◌&&◌, ℤ, pos, negsuc, nat_abs}
use Rattle.integer.specs.Within.{within}
use Rattle.panel.specs.Listed.{panel_within}
use Rattle.panel.specs.Panels.{count_of}
use Rattle.panel.specs.Position.{panel_at, position_of}
use Rattle.panel.specs.declared.Panel.{Panel}
use Rattle.refusal.specs.declared.Refusal.{Refusal}
use Rattle.refusal.specs.Refusal.{numbered}

-- 'a size b from 0 to 8'
abbrev pub most_size : ℕ
most_size = 8

-- a negative number is outside every range of naturals
unfoldable pub natural_within : ℕ → ℕ → ℤ → Bool
natural_within low high (pos n) = within low high n
natural_within low high (negsuc n) = false

abbrev pub size_within : ℤ → Bool
size_within b = natural_within 0 most_size b

-- of the text: 2, or 0 for none
unfoldable pub size_refusal : ℤ → ℕ
size_refusal b = cond (size_within b) 0 2

unfoldable pub panel_at_position : ℤ → ℤ → Result Panel Refusal
panel_at_position b position =
    cond (size_within b && natural_within 1 (count_of (nat_abs b)) position)
    (Ok (panel_at (nat_abs b) (nat_abs position)))
    (Err (numbered 2))

unfoldable pub of_panel : ℤ → Panel → Result ℕ Refusal
of_panel b x = cond (size_within b && panel_within (nat_abs b) x) (Ok (position_of (nat_abs b) x)) (Err (numbered 2))
