-- The layout of a `Z` line: the n channel sums, then for each channel, counted from 0, its cross sums with itself and with those after it.
use Prim.Native.Nat.{ℕ, zero, suc, ◌+◌, ◌-◌, ◌*◌, ◌≤◌, ◌<◌}
use Rattle.std.specs.Prelude.{◌≡◌, refl, List, [], ◌∷◌, drop, length, take}
use Rattle.std.proofs.Common.{sym, ◌∙◌, append-nil, length-append}
use Rattle.std.proofs.Math.Path.{ap}
use native.Mathlib.Omega.{arith}
use Rattle.std.proofs.Math.Nat.{max-eq_right, min-eq_left}
use Rattle.std.proofs.Math.ListN.{get_or, length-drop}
use Rattle.std.proofs.Math.Seq.{get_or-drop, get_or-take, length-take-le}
use Rattle.integer.specs.Tabulate.{tabulate}
use Rattle.integer.specs.laws.Tabulate.{length-tabulate, take-tabulate}
use Rattle.readings.specs.Samples.{Sample, total, z}
use Rattle.sums.specs.Sums.{sums_of, totals}
use Rattle.sums.specs.laws.Sums.{cross-of}
use Rattle.book_text.specs.Answers.{cross_row, cross_rows}

module _ (n : ℕ) (cross : List ℕ) where
  -- entry d of row i stands at the place of the channels i and i + d
  pub row_at : (i d : ℕ) → i + d < n → get_or (cross_row n cross i) d 0 ≡ get_or cross (8 * i + (i + d)) 0
  unfolding cross_row
  row_at i d h =
      let p : 9 * i + d ≡ 8 * i + (i + d) = omega arith in
      get_or-take (n - i) (drop (9 * i) cross) d 0 (omega arith) ∙ get_or-drop (9 * i) cross d 0 ∙ ap (λ k. get_or cross k 0) p

  module _ (few : n ≤ 8) (full : length cross ≡ 64) where
    pub length-row : (i : ℕ) → i < n → length (cross_row n cross i) ≡ n - i
    unfolding cross_row
    length-row i h = length-take-le (n - i) (drop (9 * i) cross) (rw length-drop (omega arith))

    length-rows : (m : ℕ) → m ≤ n → 2 * length (cross_rows n cross m) + m * m ≡ 2 * (m * n) + m
    unfolding cross_rows
    length-rows zero h = omega arith
    length-rows (suc m) h = rw (length-append, length-row m (omega arith)) (omega (arith, length-rows m (omega arith)))

    -- n (n + 1) / 2 cross sums in all
    pub length-all-rows : 2 * length (cross_rows n cross n) ≡ n * (n + 1)
    length-all-rows = omega (arith, length-rows n (omega arith))

-- of samples
module _ (n : ℕ) (few : n ≤ 8) (ss : List Sample) where
  -- the n channel sums
  pub channel-sums : take n (sums_of ss).channel ≡ tabulate n (λ i. total (λ s. z s i) ss)
  unfolding sums_of totals
  channel-sums =
      ap (take n) (sym (append-nil (tabulate 8 (λ p. total (λ s. z s p) ss)))) ∙ take-tabulate n 8 (λ p. total (λ s. z s p) ss) _ few

  -- entry d of row i is the sum of z_i × z_(i + d)
  pub cross-sum : (i d : ℕ) → i + d < n → get_or (cross_row n (sums_of ss).cross i) d 0 ≡ total (λ s. z s i * z s (i + d)) ss
  cross-sum i d h =
      let low : i ≤ i + d = omega arith in
      row_at n (sums_of ss).cross i d h
      ∙ (rw (min-eq_left low, max-eq_right low) at (cross-of ss i (i + d) (omega arith) (omega arith)))

  full : length (sums_of ss).cross ≡ 64
  unfolding sums_of totals
  full = length-tabulate 64 _

  pub length-cross-row : (i : ℕ) → i < n → length (cross_row n (sums_of ss).cross i) ≡ n - i
  length-cross-row = length-row n (sums_of ss).cross few full

  pub length-cross-sums : 2 * length (cross_rows n (sums_of ss).cross n) ≡ n * (n + 1)
  length-cross-sums = length-all-rows n (sums_of ss).cross few full

-- a worked example: the places of the cross sums of three channels
example : cross_rows 3 (tabulate 64 (λ p. p)) 3 ≡ 0 ∷ 1 ∷ 2 ∷ 9 ∷ 10 ∷ 18 ∷ []
unfolding cross_rows cross_row tabulate
example = refl
