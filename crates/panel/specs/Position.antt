-- Document 02, W13: 'Position in the list, from 1, gives the matrix and the matrix gives its position'.
use Rattle.std.specs.Prelude.{◌≡◌, true, ℕ, ◌+◌, ◌-◌, ◌*◌, ◌/◌, ◌%◌, ◌≤◌, ℤ, pos, nat_abs, ◌+ℤ◌, get_or}
use Rattle.panel.specs.Listed.{panel_within}
use Rattle.panel.specs.Panels.{count_of, entry_at, panels, width}
use Rattle.panel.specs.declared.Panel.{Panel}

-- the panel with i panels before it: a_22 changes at every place, a_12 every 2b + 1 places, a_11 every (2b + 1)^2
unfoldable pub panel_after : ℕ → ℕ → Panel
panel_after b i = record { a11 = entry_at b (i / width b / width b); a12 = entry_at b (i / width b % width b); a22 = entry_at b (i % width b) }

unfoldable pub panel_at : ℕ → ℕ → Panel
panel_at b position = panel_after b (position - 1)

-- how many places after −b a whole number stands
abbrev pub place_of_entry : ℕ → ℤ → ℕ
place_of_entry b z = nat_abs (z +ℤ pos b)

unfoldable pub position_of : ℕ → Panel → ℕ
position_of b x = (place_of_entry b x.a11 * width b + place_of_entry b x.a12) * width b + place_of_entry b x.a22 + 1

-- a position has the panel that stands there in the list, counted from 1; and both ways round; a panel's position is in range, and a position's
-- panel has entries from −b to b
pub record Positions (b : ℕ) : Type 0 where
  pub listed : (position : ℕ) → 1 ≤ position → position ≤ count_of b → (other : Panel) → panel_at b position ≡ get_or (panels b) (position - 1) other
  pub there_and_back : (position : ℕ) → 1 ≤ position → position ≤ count_of b → position_of b (panel_at b position) ≡ position
  pub back-and-there : (x : Panel) → panel_within b x ≡ true → panel_at b (position_of b x) ≡ x
  pub in-range : (x : Panel) → panel_within b x ≡ true → (1 ≤ position_of b x) × (position_of b x ≤ count_of b)
  pub taken : (position : ℕ) → 1 ≤ position → position ≤ count_of b → panel_within b (panel_at b position) ≡ true

unfoldable pub The-positions : Type 0
The-positions = (b : ℕ) → Positions b
