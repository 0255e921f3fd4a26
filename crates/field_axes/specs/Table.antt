-- A table from readings as numbers, and the refusals before it.
use Rattle.std.specs.Prelude.{ℕ, ◌+◌, ◌*◌, List, [], ◌∷◌, ◌++◌, ℤ, pos, take}
use Rattle.readings.specs.Refusal.{samples_refusal}
use Rattle.readings.specs.Samples.{samples}
use Rattle.scatter.specs.Table.{table_of}
use Rattle.scatter.specs.declared.table.Table.{Table}
use Rattle.text.specs.Written.{or_short}

-- Those of samples handed over, then 12 for a buffer of fewer numbers than e and two of each place
unfoldable pub table_refusal : ℕ → List ℕ → List ℕ → ℕ → ℕ
table_refusal n dilutions counts size = or_short (samples_refusal n dilutions counts) (1 + 2 * (n * n)) size

-- the shift e, the exact S_ij and the entries, row after row
unfoldable pub table_numbers : ℕ → Table → List ℤ
table_numbers n t = (pos t.e ∷ []) ++ take (n * n) t.scatter ++ take (n * n) t.entries

unfoldable pub table_numbers_of : ℕ → List ℕ → List ℕ → List ℤ
table_numbers_of n dilutions counts = table_numbers n (table_of n (samples n dilutions counts))
