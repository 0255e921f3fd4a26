-- What a consistent book tells of its arrays and of its samples: sizes, ranges, zeros past the samples.
use Rattle.std.specs.Prelude.{◌≡◌, length, get_or}
use Rattle.std.proofs.Math.Path.{refl, ap}
use Rattle.std.proofs.Common.{sym, ◌∙◌, mul-le-mul}
use Rattle.std.proofs.Math.Bool.{true}
use mathlib.Core.List.{List, [], ◌∷◌}
use Prim.Native.Nat.{ℕ, zero, suc, ◌*◌, ◌≤◌}
use native.Mathlib.Omega.{arith}
use Rattle.std.proofs.Math.ListN.{get_or-eq_default}
use Rattle.std.proofs.lemmas.Bool.{and_parts}
use Rattle.limits.specs.Limits.{least_dilution, most_channels, most_count, most_dilution, most_samples}
use Rattle.integer.specs.Padded.{padded}
use Rattle.integer.specs.Within.{all_within, within}
use Rattle.integer.specs.laws.Padded.{length-padded, padded-at}
use Rattle.integer.specs.laws.Within.{all_append, all-at}
use Rattle.readings.specs.Samples.{Sample}
use Rattle.readings.specs.laws.Samples.{no_sample}
use Rattle.sums.specs.Ranges.{Bounded, InRange}
use Rattle.sums.specs.laws.Bounds.{AllInRange, sums-bounded}
use Rattle.book.specs.Book.{book_with, counts_of, dilutions_of, samples_in}
use Rattle.book.specs.Consistent.{AllProper, Consistent, ProperSample}
use Rattle.book.specs.declared.Book.{Book}
use Rattle.book.specs.laws.Book.{length-counts, length-dilutions}
use Rattle.book.specs.laws.Calls.{number-held, summary-held}

-- a proper sample's dilution and counts
module _ (n : ℕ) (s : Sample) (p : ProperSample n s) where
  parts : (all_within least_dilution most_dilution (s.dilution ∷ []) ≡ true) × (all_within 0 most_count s.counts ≡ true)
  parts = and_parts (all_within least_dilution most_dilution (s.dilution ∷ [])) (all_within 0 most_count s.counts) p.ranges

  proper-in-range : n ≤ most_channels → InRange s
  proper-in-range h =
      record {
        channels = rw p.counted h;
        dilution = all-at least_dilution most_dilution (s.dilution ∷ []) parts.0 zero;
        count = all-at 0 most_count s.counts parts.1;
      }

module _ (n : ℕ) where
  pub all-in-range : n ≤ most_channels → (ss : List Sample) → AllProper n ss → AllInRange ss
  unfolding no_sample
  all-in-range h [] p i = record { channels = omega arith; dilution = omega arith; count = λ j. omega arith }
  all-in-range h (s ∷ ss) p zero = proper-in-range n s p.0 h
  all-in-range h (s ∷ ss) p (suc i) = all-in-range h ss p.1 i

  pub dilutions-within : (ss : List Sample) → AllProper n ss → all_within least_dilution most_dilution (dilutions_of ss) ≡ true
  unfolding dilutions_of all_within
  dilutions-within [] p = refl
  dilutions-within (s ∷ ss) p =
      simp (and_parts (within least_dilution most_dilution s.dilution) true (parts n s p.0).0).0 (dilutions-within ss p.1)

  pub counts-within : (ss : List Sample) → AllProper n ss → all_within 0 most_count (counts_of ss) ≡ true
  unfolding counts_of all_within
  counts-within [] p = refl
  counts-within (s ∷ ss) p = all_append 0 most_count s.counts (counts_of ss) (parts n s p.0).1 (counts-within ss p.1)

module _ (b : Book) (c : Consistent b) where
  pub dilutions-held : b.dilutions ≡ padded 256 0 (dilutions_of (samples_in b))
  unfolding book_with
  dilutions-held = ap (λ (x : Book). x.dilutions) c.is

  pub counts-held : b.counts ≡ padded 2048 0 (counts_of (samples_in b))
  unfolding book_with
  counts-held = ap (λ (x : Book). x.counts) c.is

  pub few-held : b.summary.k ≤ most_samples
  few-held = rw number-held c.number

  pub so-many-dilutions : length (dilutions_of (samples_in b)) ≡ b.summary.k
  so-many-dilutions = length-dilutions (samples_in b) ∙ sym (number-held b)

  pub so-many-counts : length (counts_of (samples_in b)) ≡ b.n * b.summary.k
  so-many-counts = length-counts b.n (samples_in b) c.proper ∙ ap (λ k. b.n * k) (sym (number-held b))

  pub counts-room : b.n * b.summary.k ≤ 2048
  counts-room = mul-le-mul c.channels few-held

  pub dilutions-length : length b.dilutions ≡ 256
  dilutions-length = rw dilutions-held (length-padded 256 0 _ (rw so-many-dilutions few-held))

  pub counts-length : length b.counts ≡ 2048
  counts-length = rw counts-held (length-padded 2048 0 _ (rw so-many-counts counts-room))

  pub dilution-most : (s : ℕ) → get_or b.dilutions s 0 ≤ most_dilution
  dilution-most s = rw (dilutions-held, padded-at) (all-at least_dilution most_dilution _ (dilutions-within b.n (samples_in b) c.proper) s)

  pub count_most : (p : ℕ) → get_or b.counts p 0 ≤ most_count
  count_most p = rw (counts-held, padded-at) (all-at 0 most_count _ (counts-within b.n (samples_in b) c.proper) p)

  pub dilutions-end : (s : ℕ) → b.summary.k ≤ s → get_or b.dilutions s 0 ≡ 0
  dilutions-end s h =
      let g : length (dilutions_of (samples_in b)) ≤ s = rw so-many-dilutions h in
      rw (dilutions-held, padded-at) (get_or-eq_default (dilutions_of (samples_in b)) 0 g)

  pub counts_end : (p : ℕ) → b.n * b.summary.k ≤ p → get_or b.counts p 0 ≡ 0
  counts_end p h =
      let g : length (counts_of (samples_in b)) ≤ p = rw so-many-counts h in
      rw (counts-held, padded-at) (get_or-eq_default (counts_of (samples_in b)) 0 g)

  pub summary-bounded : Bounded b.summary
  summary-bounded = rw (summary-held b c) (sums-bounded (samples_in b) c.number (all-in-range b.n c.channels (samples_in b) c.proper))
