-- Document 02, W13: what a list of panels is to be: '.. ordered by a_11, then a_12, then a_22, smallest first, each once and no others. There are
-- (2b+1)^3'. Said of any list.
use Rattle.std.specs.Prelude.{◌≡◌, Bool, ◌&&◌, cond, List, [], ◌∷◌, ℕ, ◌+◌, leb, nat_abs, length, ◌<ℤ◌}
use Rattle.ledger.specs.Refusal.{equal}
use Rattle.panel.specs.Panels.{count_of, panels}
use Rattle.panel.specs.declared.Panel.{Panel}

-- 'entries from −b to b'
unfoldable pub panel_within : ℕ → Panel → Bool
panel_within b x = leb (nat_abs x.a11) b && (leb (nat_abs x.a12) b && leb (nat_abs x.a22) b)

unfoldable pub same_panel : Panel → Panel → Bool
same_panel x y = equal x.a11 y.a11 && (equal x.a12 y.a12 && equal x.a22 y.a22)

-- how often a panel stands in a list
unfoldable pub panel_occurrences : Panel → List Panel → ℕ
panel_occurrences x [] = 0
panel_occurrences x (y ∷ ys) = cond (same_panel y x) 1 0 + panel_occurrences x ys

-- 'by a_11, then a_12, then a_22, smallest first'
pub data ComesBefore (x y : Panel) : Type 0 where
  by-a11 : x.a11 <ℤ y.a11 → ComesBefore x y
  by-a12 : x.a11 ≡ y.a11 → x.a12 <ℤ y.a12 → ComesBefore x y
  by-a22 : x.a11 ≡ y.a11 → x.a12 ≡ y.a12 → x.a22 <ℤ y.a22 → ComesBefore x y

-- each comes before the next one
unfoldable pub InOrder : List Panel → Type 0
InOrder [] = Unit
InOrder (x ∷ []) = Unit
InOrder (x ∷ y ∷ ys) = ComesBefore x y × InOrder (y ∷ ys)

pub record Listed (b : ℕ) (xs : List Panel) : Type 0 where
  pub count : length xs ≡ count_of b
  pub once : (x : Panel) → panel_occurrences x xs ≡ cond (panel_within b x) 1 0
  pub ordered : InOrder xs

-- `panels b` is such a list, for every b, and the only one
unfoldable pub The-panels : Type 0
The-panels = (b : ℕ) → Listed b (panels b) × ((xs : List Panel) → Listed b xs → xs ≡ panels b)
