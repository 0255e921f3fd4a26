-- The layout of the sums gives S: what is computed from the sums of samples is the samples' S, scatter and table.
use Rattle.std.specs.Prelude.{◌≡◌, List, ℕ, ◌*◌, ◌<◌, ◌≤◌, ℤ, pos, ◌-ℤ◌, length}
use Rattle.integer.specs.Matrix.{row_major}
use Rattle.std.proofs.Math.Path.{ap}
use Rattle.std.proofs.Common.{arith}
use Rattle.integer.specs.laws.RowMajor.{row_major-same}
use Rattle.readings.specs.Samples.{Sample, z, total}
use Rattle.sums.specs.Sums.{sums_of}
use Rattle.sums.specs.laws.Sums.{number_of, cross-of, channel-of}
use Rattle.scatter.specs.Table.{S, scatter, table_from, table_of, table_under}
use Rattle.scatter.specs.inner.BySums.{SBySums, scatter_by_sums}

module _ (ss : List Sample) where
  -- 'S_ij = k × (sum of z_i×z_j) − (sum of z_i)×(sum of z_j)', written out
  unfoldable pub by_totals : ℕ → ℕ → ℤ
  by_totals i j = pos (length ss * total (λ s. z s i * z s j) ss) -ℤ pos (total (λ s. z s i) ss * total (λ s. z s j) ss)

  totals-by-sums : (i j : ℕ) → i < 8 → j < 8 → SBySums (sums_of ss) i j ≡ by_totals i j
  unfolding SBySums by_totals
  totals-by-sums i j a b = rw (number_of ss, cross-of ss i j a b, channel-of ss i a, channel-of ss j b)

  pub S-by-sums : (i j : ℕ) → i < 8 → j < 8 → SBySums (sums_of ss) i j ≡ S ss i j
  unfolding S by_totals
  S-by-sums i j a b = totals-by-sums i j a b

  pub all-by-sums : (n : ℕ) → n ≤ 8 → scatter_by_sums n (sums_of ss) ≡ row_major n by_totals
  unfolding scatter_by_sums
  all-by-sums n h = row_major-same n (λ i j a b. totals-by-sums i j (omega arith) (omega arith))

  pub scatter-by-sums : (n : ℕ) → n ≤ 8 → scatter_by_sums n (sums_of ss) ≡ scatter n ss
  unfolding scatter S by_totals
  scatter-by-sums n h = all-by-sums n h

  pub table-by-sums : (n : ℕ) → n ≤ 8 → table_from (scatter_by_sums n (sums_of ss)) ≡ table_of n ss
  unfolding table_under scatter S by_totals
  table-by-sums n h = ap table_from (all-by-sums n h)
