-- The sums of the first samples of readings: that a further sample can be added, and what its sums then are.
use mathlib.Core.Path.{◌≡◌, ap, ◌∙◌}
use mathlib.Core.List.{List}
use Prim.Native.Nat.{ℕ, ◌+◌, ◌-◌, ◌*◌, ◌<◌, ◌≤◌}
use native.Mathlib.Nat.{le_trans, mul-le-mul_right}
use native.Mathlib.Numerals.{add-one}
use native.Mathlib.Omega.{arith}
use lib.ListN.{length, get_or, take, drop}
use Rattle.integer.specs.Tabulate.{tabulate}
use Rattle.integer.specs.laws.Tabulate.{length-tabulate, tabulate-suc}
use Rattle.readings.specs.Samples.{Sample, sample, sample_at, samples, z}
use Rattle.sums.specs.Sums.{products, totals, sums_of}
use Rattle.sums.specs.inner.Raised.{raised}
use Rattle.sums.specs.declared.Sums.{Sums}
use Rattle.sums.specs.laws.Sums.{totals-more}
use Rattle.readings.specs.Ranges.{Readings}
use Rattle.sums.specs.inner.Ranges.{InRange, Room}
use Rattle.sums.specs.laws.Bounds.{sample-in-range, all-in-range, totals-bound}
use Rattle.limits.specs.Limits.{most_samples}

module _ (n : ℕ) (dilutions counts : List ℕ) (r : Readings n dilutions counts) (s : ℕ) (more : s < length dilutions) where
  -- the part of the counts that is lent
  the-sample : sample (get_or dilutions s 0) (take (n * s + n - n * s) (drop (n * s) counts)) ≡ sample_at n dilutions counts s
  unfolding sample_at
  the-sample = ap (λ m. sample (get_or dilutions s 0) (take m (drop (n * s) counts))) (sub (n * s) n)
    where
      sub : (a b : ℕ) → a + b - a ≡ b
      sub a b = omega arith

  pub in-range : InRange (sample (get_or dilutions s 0) (take (n * s + n - n * s) (drop (n * s) counts)))
  in-range = rw the-sample (sample-in-range n dilutions counts r s)

  -- what the samples give at each of m places
  module _ (m : ℕ) (v : Sample → ℕ → ℕ) {xs : List ℕ} (f : xs ≡ totals m v (tabulate s (sample_at n dilutions counts))) where
    pub sums_next : {ys : List ℕ} → ys ≡ raised m (v (sample (get_or dilutions s 0) (take (n * s + n - n * s) (drop (n * s) counts)))) xs →
        ys ≡ totals m v (tabulate (s + 1) (sample_at n dilutions counts))
    sums_next g = g ∙ rw (f, the-sample, add-one, tabulate-suc)
        (totals-more m v (tabulate s (sample_at n dilutions counts)) (sample_at n dilutions counts s))

    pub sums-room : (b : ℕ) → ((s : Sample) → InRange s → (p : ℕ) → v s p ≤ b) → Room m (most_samples * b) xs
    unfolding totals
    sums-room b h =
        record {
          size = ap length f ∙ length-tabulate m _;
          most = λ p. rw f (le_trans (totals-bound m v b h _ (all-in-range n dilutions counts r s) p)
              (rw length-tabulate (mul-le-mul_right b s-most)));
        }
      where
        s-most : s ≤ most_samples
        s-most = omega (arith, r.number)

-- after the last one
pub all-samples : (n : ℕ) (dilutions counts : List ℕ) {s : ℕ} {xs ys : List ℕ} → s ≡ length dilutions →
    xs ≡ totals 8 z (tabulate s (sample_at n dilutions counts)) → ys ≡ totals 64 products (tabulate s (sample_at n dilutions counts)) →
    ◌≡◌ {A = Sums} (record { k = length dilutions; channel = xs; cross = ys }) (sums_of (samples n dilutions counts))
unfolding samples sums_of
all-samples n dilutions counts e f g = rw (f, g, e, length-tabulate)
