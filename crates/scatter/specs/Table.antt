-- Document 01, 'From readings to a table': S, the shift e and the loaded entries of samples. Channels count from 0 here.
use Rattle.std.specs.Prelude.{Bool, true, false, List, [], ◌∷◌, map, ℕ, zero, suc, ◌*◌, ◌^◌, max, leb, ℤ, pos, ◌-ℤ◌, nat_abs, length}
use Rattle.integer.specs.Matrix.{Matrix, row_major}
use Rattle.integer.specs.Padded.{padded}
use Rattle.limits.specs.Limits.{entry_limit}
use Rattle.rounding.specs.Rounding.{rnd}
use Rattle.readings.specs.Samples.{Sample, z, total}
use Rattle.scatter.specs.declared.table.Table.{Table}

-- 'For k samples S_ij = k × (sum of z_i×z_j) − (sum of z_i)×(sum of z_j).'
unfoldable pub S : List Sample → Matrix
S ss i j = pos (length ss * total (λ s. z s i * z s j) ss) -ℤ pos (total (λ s. z s i) ss * total (λ s. z s j) ss)

-- Every S_ij of n channels, row after row
unfoldable pub scatter : ℕ → List Sample → List ℤ
scatter n ss = row_major n (S ss)

-- The greatest |S_ij|
unfoldable pub largest : List ℤ → ℕ
largest [] = 0
largest (u ∷ us) = max (nat_abs u) (largest us)

-- The smallest shift, from e on, with m ≤ limit × 2^e: `enough` says whether that is so at e, and at most `tries` more are tried
unfoldable pub smallest_shift : ℕ → ℕ → Bool → ℕ → ℕ → ℕ
smallest_shift limit zero enough m e = e
smallest_shift limit (suc tries) true m e = e
smallest_shift limit (suc tries) false m e = smallest_shift limit tries (leb m (limit * 2 ^ suc e)) m (suc e)

-- 'The shift e is the smallest e ≥ 0 with every |S_ij| ≤ 1,048,576 × 2^e', with any limit for that one. As many tries as the greatest |S_ij| says
-- are enough, since m ≤ 2^m.
unfoldable pub shift_under : ℕ → List ℤ → ℕ
shift_under limit us = smallest_shift limit (largest us) (leb (largest us) (limit * 2 ^ 0)) (largest us) 0

-- 'The loaded entry is rnd(S_ij / 2^e).'
unfoldable pub entries_under : ℕ → List ℤ → List ℤ
entries_under limit us = map (λ u. rnd u (2 ^ shift_under limit us)) us

-- The table of every S_ij: e, the entries and the S_ij, in 64 places each
unfoldable pub table_from_under : ℕ → List ℤ → Table
table_from_under limit us =
    record { e = shift_under limit us; entries = padded 64 (pos 0) (entries_under limit us); scatter = padded 64 (pos 0) us }

unfoldable pub table_under : ℕ → ℕ → List Sample → Table
table_under limit n ss = table_from_under limit (scatter n ss)

-- Under the limit of document 02's W9
abbrev pub shift : List ℤ → ℕ
shift = shift_under entry_limit

abbrev pub entries : List ℤ → List ℤ
entries = entries_under entry_limit

abbrev pub table_from : List ℤ → Table
table_from = table_from_under entry_limit

abbrev pub table_of : ℕ → List Sample → Table
table_of = table_under entry_limit
