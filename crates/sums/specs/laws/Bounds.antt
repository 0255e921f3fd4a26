-- The sizes of sums, for readings within the ranges.
use Rattle.std.specs.Prelude.{true, false, cond, List, [], ◌∷◌, ℕ, zero, suc, ◌+◌, ◌*◌, ◌/◌, ◌%◌, ◌≤◌, leb, length, get_or, take, drop}
use Rattle.std.proofs.Common.{mul-le-mul, suc-mul}
use native.Mathlib.Omega.{arith}
use Rattle.std.proofs.Math.ListN.{length-take}
use Rattle.std.proofs.Math.Seq.{get_or-drop}
use Rattle.integer.specs.Tabulate.{tabulate}
use Rattle.integer.specs.laws.Tabulate.{length-tabulate, tabulate-all}
use Rattle.readings.specs.Samples.{Sample, z, sample_at, samples, total}
use Rattle.sums.specs.Sums.{products, totals, sums_of}
use Rattle.readings.specs.Ranges.{Readings}
use Rattle.sums.specs.inner.Ranges.{InRange, z_limit, Bounded}
use Rattle.readings.specs.laws.Samples.{no_sample}
use Rattle.limits.specs.Limits.{most_count, most_samples}

-- every sample of a list is in range
abbrev pub AllInRange : List Sample → Type 0
AllInRange ss = (s : ℕ) → InRange (get_or ss s no_sample)

pub z-bound : (s : Sample) → InRange s → (i : ℕ) → z s i ≤ z_limit
unfolding z
z-bound s r i = mul-le-mul (r.count i) r.dilution

-- products of values none of which is above b
products_most : (b : ℕ) (s : Sample) → ((i : ℕ) → z s i ≤ b) → (p : ℕ) → products s p ≤ b * b
unfolding products
products_most b s h p =
    elim (leb (p / 8) (p % 8)) as (λ t. cond t (z s (p / 8) * z s (p % 8)) 0 ≤ b * b)
    [ true ↦ mul-le-mul (h (p / 8)) (h (p % 8)) | false ↦ omega arith ]

pub products_bound : (s : Sample) → InRange s → (p : ℕ) → products s p ≤ z_limit * z_limit
unfolding z
products_bound s r p = products_most z_limit s (λ i. mul-le-mul (r.count i) r.dilution) p

pub total-bound : (f : Sample → ℕ) (b : ℕ) (ss : List Sample) → ((s : ℕ) → f (get_or ss s no_sample) ≤ b) → total f ss ≤ length ss * b
unfolding total
total-bound f b [] h = omega arith
total-bound f b (s ∷ ss) h = rw suc-mul (omega (arith, h zero, total-bound f b ss (λ q. h (suc q))))

totals-most : (m : ℕ) (v : Sample → ℕ → ℕ) (b : ℕ) (ss : List Sample) → ((s p : ℕ) → v (get_or ss s no_sample) p ≤ b) →
    (p : ℕ) → get_or (totals m v ss) p 0 ≤ length ss * b
unfolding totals
totals-most m v b ss h =
    tabulate-all (λ x. x ≤ length ss * b) m (λ p. total (λ s. v s p) ss) 0 (omega arith) (λ p. total-bound (λ s. v s p) b ss (λ s. h s p))

pub totals-bound : (m : ℕ) (v : Sample → ℕ → ℕ) (b : ℕ) → ((s : Sample) → InRange s → (p : ℕ) → v s p ≤ b) → (ss : List Sample) → AllInRange ss →
    (p : ℕ) → get_or (totals m v ss) p 0 ≤ length ss * b
totals-bound m v b h ss r = totals-most m v b ss (λ s p. h _ (r s) p)

-- sums of samples whose values are none above the limit
sums-most : (ss : List Sample) → length ss ≤ most_samples → ((s i : ℕ) → z (get_or ss s no_sample) i ≤ z_limit) → Bounded (sums_of ss)
unfolding sums_of
sums-most ss h v =
    record {
      number = h;
      channel = totals-most 8 z z_limit ss v;
      cross = totals-most 64 products (z_limit * z_limit) ss (λ s p. products_most z_limit (get_or ss s no_sample) (v s) p);
    }

pub sums-bounded : (ss : List Sample) → length ss ≤ most_samples → AllInRange ss → Bounded (sums_of ss)
unfolding z
sums-bounded ss h r = sums-most ss h (λ s i. mul-le-mul ((r s).count i) (r s).dilution)

pub take_bound : (b n : ℕ) (l : List ℕ) → ((i : ℕ) → get_or l i 0 ≤ b) → (i : ℕ) → get_or (take n l) i 0 ≤ b
take_bound b zero [] h i = omega arith
take_bound b zero (x ∷ l) h i = omega arith
take_bound b (suc n) [] h i = omega arith
take_bound b (suc n) (x ∷ l) h zero = h zero
take_bound b (suc n) (x ∷ l) h (suc i) = take_bound b n l (λ j. h (suc j)) i

module _ (n : ℕ) (dilutions counts : List ℕ) (r : Readings n dilutions counts) where
  count-most : (s i : ℕ) → get_or (sample_at n dilutions counts s).counts i 0 ≤ most_count
  unfolding sample_at
  count-most s i = take_bound most_count n (drop (n * s) counts) (λ j. rw get_or-drop (r.count (n * s + j))) i

  pub sample-in-range : (s : ℕ) → InRange (sample_at n dilutions counts s)
  unfolding sample_at
  sample-in-range s =
      record { channels = rw length-take (omega (arith, r.channels)); dilution = r.dilution s; count = count-most s }

  pub all-in-range : (m : ℕ) → AllInRange (tabulate m (sample_at n dilutions counts))
  unfolding no_sample sample_at
  all-in-range m = tabulate-all InRange m (sample_at n dilutions counts) no_sample
      (record { channels = omega arith; dilution = omega arith; count = λ i. omega arith })
      (λ s. record { channels = rw length-take (omega (arith, r.channels)); dilution = r.dilution s; count = count-most s })

  pub readings-bounded : Bounded (sums_of (samples n dilutions counts))
  unfolding samples z no_sample sample_at
  readings-bounded =
      sums-most _ (rw length-tabulate r.number)
      (λ s i. tabulate-all (λ t. z t i ≤ z_limit) (length dilutions) (sample_at n dilutions counts) no_sample (omega arith)
      (λ q. mul-le-mul (count-most q i) (r.dilution q)) s)
