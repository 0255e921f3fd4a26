-- Document 02, W13: 'list all symmetric matrices with entries from −b to b, ordered by a_11, then a_12, then a_22, smallest first'.
use Rattle.std.specs.Prelude.{ℕ, ◌+◌, ◌*◌, ◌^◌, ℤ, pos, ◌-ℤ◌}
use mathlib.Core.List.{List, flat_map, map}
use Rattle.integer.specs.Tabulate.{tabulate}
use Rattle.panel.specs.declared.Panel.{Panel}

-- how many whole numbers there are from −b to b
abbrev pub width : ℕ → ℕ
width b = 2 * b + 1

-- 'There are (2b+1)^3'
abbrev pub count_of : ℕ → ℕ
count_of b = width b ^ 3

-- the whole number that stands i places after −b
abbrev pub entry_at : ℕ → ℕ → ℤ
entry_at b i = pos i -ℤ pos b

-- 'entries from −b to b', 'smallest first'
unfoldable pub whole_numbers : ℕ → List ℤ
whole_numbers b = tabulate (width b) (entry_at b)

-- for each a_11, each a_12, for each of these each a_22
unfoldable pub panels : ℕ → List Panel
panels b = flat_map (λ x. flat_map (λ y. map (λ z. record { a11 = x; a12 = y; a22 = z }) (whole_numbers b)) (whole_numbers b)) (whole_numbers b)
