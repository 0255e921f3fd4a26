-- The shift of readings within the ranges is at most 40, under every limit from document 01's on: 4 × |S_ij| ≤ (k × M)², where M is the greatest
-- value z that a reading can have.
use mathlib.Core.List.{List, [], ◌∷◌, ◌++◌}
use Rattle.std.specs.Prelude.{◌≡◌, refl, ℕ, zero, suc, ◌+◌, ◌*◌, ◌-◌, ◌^◌, ◌<◌, ◌≤◌, pos, nat_abs, ◌-ℤ◌, length, replicate}
use Rattle.std.proofs.Common.{ap, mul-le-mul, le_trans}
use Rattle.std.proofs.Math.Nat.{mul-le-mul_left, mul-le-mul_right}
use Rattle.std.proofs.Math.Decide.{dec_le}
use native.Mathlib.Omega.{arith}
use Rattle.integer.specs.Matrix.{row_major}
use Rattle.integer.specs.Tabulate.{tabulate}
use Rattle.integer.specs.laws.Laws.{nat_abs--ℤ}
use Rattle.integer.specs.laws.RowMajor.{row_major-all}
use Rattle.integer.specs.laws.Tabulate.{length-tabulate}
use Rattle.limits.specs.Limits.{entry_limit, former_entry_limit, most_samples, most_shift}
use Rattle.limits.specs.laws.Values.{former-below}
use Rattle.readings.specs.Ranges.{Readings}
use Rattle.readings.specs.Samples.{Sample, z, sample_at, samples, total}
use Rattle.sums.specs.Ranges.{z_limit}
use Rattle.sums.specs.laws.Bounds.{AllInRange, z-bound, all-in-range}
use Rattle.scatter.specs.Table.{S, scatter, largest, smallest_shift, shift_under, table_from_under, table_under, table_of}
use Rattle.scatter.specs.laws.BySums.{by_totals}
use Rattle.scatter.specs.laws.Shift.{shift-smallest}

-- 4xy ≤ (x + y)²
four_products : (x y : ℕ) → 4 * (x * y) ≤ (x + y) * (x + y)
four_products x y = elim (dec_le x y) [ yes h ↦ by x y h | no h ↦ omega (arith, by y x (omega arith)) ]
  where
    apart : (x d : ℕ) → 4 * (x * (x + d)) ≤ (x + (x + d)) * (x + (x + d))
    apart x d = omega arith

    by : (x y : ℕ) → x ≤ y → 4 * (x * y) ≤ (x + y) * (x + y)
    by x y h =
        let e : x + (y - x) ≡ y = omega arith in
        rw e at (apart x (y - x))

-- (M − x)(M − y) ≥ 0
complements : (M x y : ℕ) → x ≤ M → y ≤ M → M * x + M * y ≤ M * M + x * y
complements M x y h g =
    let e : x + (M - x) ≡ M = omega arith in
    rw e at (apart x (M - x) (rw e g))
  where
    apart : (x p : ℕ) → y ≤ x + p → (x + p) * x + (x + p) * y ≤ (x + p) * (x + p) + x * y
    apart x p g = omega (arith, mul-le-mul_left p g)

-- What is known of the sums a and b of two channels and of k times the sum of their products, X, where K is k times the greatest value
record Related (K a b X : ℕ) : Type 0 where
  first : a ≤ K
  second : b ≤ K
  by_first : X ≤ K * a
  by-second : X ≤ K * b
  by_both : K * a + K * b ≤ K * K + X

module _ {K a b X : ℕ} (r : Related K a b X) where
  not-above : 4 * X ≤ K * K + 4 * (a * b)
  not-above = elim (dec_le a b) [
    | yes h ↦ omega (arith, r.by_first, four_products K (2 * a), mul-le-mul_left a h)
    | no h ↦ let g : b ≤ a = omega arith in omega (arith, r.by-second, four_products K (2 * b), mul-le-mul_left b g)
  ]

  not-below : 4 * (a * b) ≤ K * K + 4 * X
  not-below = elim (dec_le (a + b) K) [
    | yes h ↦ omega (arith, four_products a b, mul-le-mul h h)
    | no h ↦ beyond (omega arith)
  ]
    where
      crossed : (p q : ℕ) → K ≡ a + p → K ≡ b + q → p * q + K * a + K * b ≡ K * K + a * b
      crossed p q e f = omega (arith, ap (λ x. K * x) f, ap (λ x. x * q) e, ap (λ x. a * x) f)

      beyond : K ≤ a + b → 4 * (a * b) ≤ K * K + 4 * X
      beyond h =
          let sum : (K - a) + (K - b) ≤ K = omega (arith, r.first, r.second) in
          omega (
            arith,
            four_products (K - a) (K - b),
            mul-le-mul sum sum,
            crossed (K - a) (K - b) (omega (arith, r.first)) (omega (arith, r.second)),
            r.by_both,
          )

  -- 4 × |X − ab| ≤ K²
  quarter : 4 * nat_abs (pos X -ℤ pos (a * b)) ≤ K * K
  quarter = omega (arith, nat_abs--ℤ X (a * b), not-above, not-below)

-- Sums of k samples, none of whose values is above M: of one channel, of another, and of their products
record Totals (M k a b c : ℕ) : Type 0 where
  first : a ≤ k * M
  second : b ≤ k * M
  by_first : c ≤ M * a
  by-second : c ≤ M * b
  by_both : M * a + M * b ≤ k * (M * M) + c

related : {M k a b c : ℕ} → Totals M k a b c → Related (k * M) a b (k * c)
related {M} {k} {a} {b} {c} t = record {
  first = t.first;
  second = t.second;
  by_first = omega (arith, mul-le-mul_left k t.by_first);
  by-second = omega (arith, mul-le-mul_left k t.by-second);
  by_both = omega (arith, mul-le-mul_left k t.by_both);
}

module _ (i j : ℕ) where
  abbrev first-channel : Sample → ℕ
  first-channel s = z s i

  abbrev second-channel : Sample → ℕ
  second-channel s = z s j

  abbrev products : Sample → ℕ
  products s = z s i * z s j

  totals : (ss : List Sample) → AllInRange ss → Totals z_limit (length ss) (total first-channel ss) (total second-channel ss) (total products ss)
  unfolding total
  totals [] h = record { first = omega arith; second = omega arith; by_first = omega arith; by-second = omega arith; by_both = omega arith }
  totals (s ∷ ss) h =
      let t = totals ss (λ q. h (suc q)) in
      let u = z-bound s (h zero) i in
      let v = z-bound s (h zero) j in
      record {
        first = omega (arith, t.first, u);
        second = omega (arith, t.second, v);
        by_first = omega (arith, t.by_first, mul-le-mul_left (z s i) v);
        by-second = omega (arith, t.by-second, mul-le-mul_right (z s j) u);
        by_both = omega (arith, t.by_both, complements z_limit (z s i) (z s j) u v);
      }

  -- the same of S written out
  totals-quarter : (ss : List Sample) → AllInRange ss → 4 * nat_abs (by_totals ss i j) ≤ (length ss * z_limit) * (length ss * z_limit)
  unfolding by_totals
  totals-quarter ss h = quarter (related (totals ss h))

  totals-most : (ss : List Sample) → length ss ≤ most_samples → AllInRange ss → nat_abs (by_totals ss i j) ≤ former_entry_limit * 2 ^ most_shift
  totals-most ss k h =
      let most : length ss * z_limit ≤ most_samples * z_limit = mul-le-mul_right z_limit k in
      omega (arith, totals-quarter ss h, mul-le-mul most most)

  -- 4 × |S_ij| ≤ (k × M)²
  pub S-quarter : (ss : List Sample) → AllInRange ss → 4 * nat_abs (S ss i j) ≤ (length ss * z_limit) * (length ss * z_limit)
  unfolding S by_totals
  S-quarter ss h = totals-quarter ss h

  pub S-most : (ss : List Sample) → length ss ≤ most_samples → AllInRange ss → nat_abs (S ss i j) ≤ former_entry_limit * 2 ^ most_shift
  unfolding S by_totals
  S-most ss k h = totals-most ss k h

totals-shift : (limit n : ℕ) (dilutions counts : List ℕ) → former_entry_limit ≤ limit → Readings n dilutions counts →
    shift_under limit (row_major n (by_totals (samples n dilutions counts))) ≤ most_shift
unfolding samples
totals-shift limit n dilutions counts old r =
    (shift-smallest {limit = limit} (omega arith) _).least most_shift
    (row_major-all n _ (λ u. nat_abs u ≤ limit * 2 ^ most_shift) (omega arith) every)
  where
    every : (i j : ℕ) → i < n → j < n → nat_abs (by_totals (samples n dilutions counts) i j) ≤ limit * 2 ^ most_shift
    every i j g f =
        le_trans (totals-most i j _ (rw length-tabulate r.number) (all-in-range n dilutions counts r (length dilutions)))
        (mul-le-mul_right (2 ^ most_shift) old)

-- Under every limit that is not below the former one
pub most-shift : (limit n : ℕ) (dilutions counts : List ℕ) → former_entry_limit ≤ limit → Readings n dilutions counts →
    shift_under limit (scatter n (samples n dilutions counts)) ≤ most_shift
unfolding scatter S by_totals
most-shift limit n dilutions counts old r = totals-shift limit n dilutions counts old r

pub readings-shift : (n : ℕ) (dilutions counts : List ℕ) → Readings n dilutions counts → (table_of n (samples n dilutions counts)).e ≤ most_shift
unfolding table_under table_from_under scatter S by_totals
readings-shift n dilutions counts r = totals-shift entry_limit n dilutions counts former-below r

-- 40 is reached under the former limit: 256 samples at dilution 100, half of them 0 and half 65,535.
reached : shift_under former_entry_limit (scatter 2 (samples 2 (replicate 256 100) (replicate 256 0 ++ replicate 256 65_535))) ≡ most_shift
unfolding samples sample_at tabulate row_major total z S scatter largest smallest_shift shift_under
reached = refl
