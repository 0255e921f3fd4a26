-- Document 02, W13: 'Each is run with limit 16 and tolerance 0, and written into a lent buffer as one line ended by a line feed .., after the one
-- before it: the three entries, sweeps run, m, outcome, parted by tabs'.
use Rattle.std.specs.Prelude.{ℕ, ℤ, pos}
use mathlib.Core.List.{List, [], ◌∷◌, ◌++◌, flat_map, map}
use Rattle.record.specs.Run.{Run}
use Rattle.run.specs.Run.{run_of}
use Rattle.run.specs.Word.{outcome_word}
use Rattle.text.specs.Decimal.{number}
use Rattle.text.specs.Line.{line}
use Rattle.panel.specs.Panels.{panels}
use Rattle.panel.specs.declared.Panel.{Panel}

-- the matrix, row after row
abbrev pub panel_entries : Panel → List ℤ
panel_entries x = x.a11 ∷ x.a12 ∷ x.a12 ∷ x.a22 ∷ []

-- 'run with limit 16 and tolerance 0'
unfoldable pub panel_run : Panel → Run
panel_run x = run_of 2 (panel_entries x) 16 0

-- 'the three entries, sweeps run, m'
unfoldable pub line_numbers : Panel → List ℤ
line_numbers x = x.a11 ∷ x.a12 ∷ x.a22 ∷ pos (panel_run x).sweeps ∷ pos (panel_run x).last.solver.m ∷ []

-- numbers and a word, 'parted by tabs'
unfoldable pub fields_line : List ℤ → List ℕ → List ℕ
fields_line zs word = line (map number zs ++ (word ∷ []))

unfoldable pub panel_line : Panel → List ℕ
panel_line x = fields_line (line_numbers x) (outcome_word (panel_run x).outcome)

-- 'after the one before it'
unfoldable pub panels_text : ℕ → List ℕ
panels_text b = flat_map panel_line (panels b)
