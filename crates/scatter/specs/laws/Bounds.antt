-- The sizes of S and of the shift, for sums of readings within the ranges: no number needs more than 63 bits.
use Rattle.std.specs.Prelude.{◌≡◌, List, ℤ, pos, ◌-ℤ◌, length, get_or}
use Prim.Native.Nat.{ℕ, ◌+◌, ◌*◌, ◌-◌, ◌^◌, ◌<◌, ◌≤◌, min, max}
use Rattle.std.proofs.Common.{mul-le-mul, le_trans, le_refl}
use native.Mathlib.Omega.{arith}
use Rattle.std.proofs.Math.IntN.{nat_abs}
use Rattle.integer.specs.Padded.{padded}
use Rattle.integer.specs.laws.Laws.{nat_abs--ℤ}
use Rattle.integer.specs.laws.Padded.{length-padded, padded-at}
use Rattle.integer.specs.laws.RowMajor.{row_major-all}
use Rattle.readings.specs.Ranges.{Readings}
use Rattle.readings.specs.Samples.{samples}
use Rattle.sums.specs.Sums.{sums_of}
use Rattle.sums.specs.declared.Sums.{Sums}
use Rattle.sums.specs.inner.Ranges.{z_limit, Bounded}
use Rattle.sums.specs.laws.Bounds.{readings-bounded}
use Rattle.scatter.specs.Table.{S, scatter, largest, shift, shift_under, table_from_under, table_of, table_under}
use Rattle.scatter.specs.inner.BySums.{SBySums, scatter_by_sums}
use Rattle.scatter.specs.inner.Ranges.{Roundable}
use Rattle.scatter.specs.laws.BySums.{all-by-sums, by_totals}
use Rattle.scatter.specs.laws.Shift.{largest-least, smallest-found, shift_small}
use Rattle.limits.specs.Limits.{most_samples}
use Rattle.limits.specs.laws.Values.{former-below, some-entry}

difference-within : (a b m : ℕ) → a ≤ m → b ≤ m → nat_abs (pos a -ℤ pos b) ≤ m
difference-within a b m h g = omega (arith, nat_abs--ℤ a b)

module _ (t : Sums) (b : Bounded t) where
  pub number-times-cross : (p : ℕ) → t.k * get_or t.cross p 0 ≤ most_samples * (most_samples * (z_limit * z_limit))
  number-times-cross p =
      mul-le-mul b.number
      (le_trans (b.cross p) (mul-le-mul {n₁ = t.k} {m₁ = z_limit * z_limit} b.number (le_refl (z_limit * z_limit))))

  channel-most : (i : ℕ) → get_or t.channel i 0 ≤ most_samples * z_limit
  channel-most i = omega (arith, b.channel i, b.number)

  pub channel-times-channel : (i j : ℕ) → get_or t.channel i 0 * get_or t.channel j 0 ≤ most_samples * (most_samples * (z_limit * z_limit))
  channel-times-channel i j = mul-le-mul (channel-most i) (channel-most j)

  pub S-small : (i j : ℕ) → nat_abs (SBySums t i j) < 2 ^ 62
  unfolding SBySums
  S-small i j =
      omega (
        arith,
        difference-within _ _ (most_samples * (most_samples * (z_limit * z_limit))) (number-times-cross (8 * min i j + max i j))
            (channel-times-channel i j),
      )

  pub scatter-small : (n p : ℕ) → nat_abs (get_or (scatter_by_sums n t) p (pos 0)) < 2 ^ 62
  unfolding scatter_by_sums
  scatter-small n = row_major-all n (SBySums t) (λ u. nat_abs u < 2 ^ 62) (omega arith) (λ i j g h. S-small i j)

module _ (us : List ℤ) (h : (p : ℕ) → nat_abs (get_or us p (pos 0)) < 2 ^ 62) where
  pub padded-small : length us ≤ 64 → Roundable (padded 64 (pos 0) us)
  padded-small l = record { size = length-padded 64 (pos 0) us l; small = λ p. rw padded-at (h p) }

  pub shift-bound : shift us < 62
  unfolding shift_under
  shift-bound =
      omega (
        arith,
        shift_small former-below _ _ (smallest-found some-entry (largest us))
            (omega (arith, largest-least us (2 ^ 62 - 1) (λ p. omega (arith, h p)))),
      )

pub readings-shift : (n : ℕ) (dilutions counts : List ℕ) → Readings n dilutions counts → (table_of n (samples n dilutions counts)).e < 62
unfolding table_under table_from_under scatter S by_totals
readings-shift n dilutions counts r =
    let same : scatter_by_sums n (sums_of (samples n dilutions counts)) ≡ scatter n (samples n dilutions counts) =
    all-by-sums (samples n dilutions counts) n r.channels
    in
    rw (← same) (shift-bound _ (scatter-small _ (readings-bounded n dilutions counts r) n))
