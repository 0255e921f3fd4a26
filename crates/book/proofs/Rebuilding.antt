-- The sums of a book's samples, from the last sample to the first: values in range, what a reversed range yields, and what its sum is.
use Rattle.std.specs.Prelude.{◌≡◌, refl, ℕ, zero, suc, ◌+◌, ◌-◌, ◌*◌, ◌/◌, ◌%◌, ◌<◌, ◌≤◌, ◌^◌}
use Rattle.std.specs.Prelude.{List, [], ◌∷◌, length, get_or, take, drop, leb, sum_by, Some, None}
use Rattle.std.proofs.Common.{sym, ap, subst, ◌∙◌, arith, le_refl, le-leb, length-take}
use Rattle.std.proofs.Common.{mul-zero, zero-mul, zero-add, mul-suc, suc-mul, mul-le-mul, mul-le-mul_right}
use Rattle.std.proofs.Math.ListN.{get_or-eq_default}
use Rattle.std.proofs.Math.Seq.{get_or-drop, get_or-take}
use Rattle.std.proofs.lemmas.Bool.{lt-leb}
use Rattle.std.proofs.lemmas.Iterator.{YieldsList}
use Rattle.std.proofs.lemmas.Iterator.Consumers.{YieldsList-from_shown}
use Rattle.std.proofs.lemmas.List.Sums.{sum_by-cons}
use Rattle.std.specs.Iterator.Adapters.{rev_source, rev_steps}
use Rattle.std.specs.Range.{range_steps_back}
use Rattle.std.specs.declared.iter.Rev.{Rev}
use Rattle.std.specs.declared.ops.Range.{Range}
use Rattle.integer.specs.Tabulate.{tabulate}
use Rattle.integer.specs.laws.Tabulate.{tabulate-suc}
use Rattle.integer.specs.laws.Tests.{cond_same}
use Rattle.readings.specs.Samples.{Sample, sample_at, total, z}
use Rattle.readings.specs.laws.Samples.{total-append, total_ext}
use Rattle.sums.specs.Ranges.{InRange, z_limit}
use Rattle.sums.specs.Sums.{products}
use Rattle.sums.specs.laws.Bounds.{take_bound, z-bound}
use Rattle.book.specs.Book.{samples_in}
use Rattle.book.specs.Consistent.{Consistent}
use Rattle.book.specs.inner.Rebuild.{sample_of}
use Rattle.book.specs.declared.Book.{Book}
use Rattle.book.specs.laws.Held.{count_most, counts-room, dilution-most, few-held}

-- n numbers from a on, the last first
abbrev pub downward : ℕ → ℕ → List ℕ
downward a zero = []
downward a (suc n) = (a + n) ∷ downward a n

-- what a range yields from its end
module _ (gap : ℕ → ℕ → ℕ) (follows : ℕ → ℕ → Type 0) (gap-is : (a b : ℕ) → gap a b ≡ b - a) (next : (a b : ℕ) → follows a b → b ≡ a + 1) where
  abbrev shown : Rev (Range ℕ) → List ℕ
  shown s = downward (rev_source s).start ((rev_source s).end - (rev_source s).start)

  pub yields-downward : (s : Rev (Range ℕ)) (k : ℕ) → rev_source s ≡ record { start = 0; end = k } →
      YieldsList (rev_steps (range_steps_back gap follows)) (λ x. x) s (downward 0 k)
  yields-downward s k e =
      let all : k - 0 ≡ k = omega arith in
      rw all at (subst (λ (r : Range ℕ). YieldsList (rev_steps (range_steps_back gap follows)) (λ x. x) s (downward r.start (r.end - r.start))) e
      (YieldsList-from_shown (rev_steps (range_steps_back gap follows)) (λ x. x) shown ended turned s))
    where
      ended : (u t : Rev (Range ℕ)) → rev_steps (range_steps_back gap follows) u None t → length (shown u) ≡ 0
      ended u t p = let z : u.iter.end - u.iter.start ≡ 0 = sym (gap-is u.iter.start u.iter.end) ∙ p.1.0 in rw z refl

      turned : (u : Rev (Range ℕ)) (x : ℕ) (t : Rev (Range ℕ)) → rev_steps (range_steps_back gap follows) u (Some x) t → shown u ≡ x ∷ shown t
      turned u x t p =
          let many : 0 < u.iter.end - u.iter.start = rw (gap-is u.iter.start u.iter.end) at p.1.0 in
          let end : u.iter.end ≡ t.iter.end + 1 = next _ _ p.1.2 in
          let more : u.iter.end - u.iter.start ≡ suc (t.iter.end - t.iter.start) = omega (arith, p.0) in
          let first : u.iter.start + (t.iter.end - t.iter.start) ≡ x = omega (arith, p.0, p.1.1) in
          rw (more, first, p.0) refl

-- the sum over them
module _ (f : Sample → ℕ) (g : ℕ → Sample) where
  pub summed : (k : ℕ) → sum_by (λ s. f (g s)) (downward 0 k) ≡ total f (tabulate k g)
  unfolding total tabulate
  summed zero = refl
  summed (suc k) =
      let last : total f (tabulate (suc k) g) ≡ total f (tabulate k g) + (f (g k) + 0) =
      ap (total f) (tabulate-suc k g) ∙ total-append f (tabulate k g) (g k ∷ []) in
      sum_by-cons (λ s. f (g s)) (0 + k) (downward 0 k) ∙ rw (zero-add, summed k) (omega arith)

-- samples that give nothing
total-none : (f : Sample → ℕ) (k : ℕ) (g : ℕ → Sample) → ((s : ℕ) → f (g s) ≡ 0) → total f (tabulate k g) ≡ 0
unfolding total tabulate
total-none f zero g e = refl
total-none f (suc k) g e = rw (e zero, total-none f k (λ s. g (suc s)) (λ s. e (suc s)))

module _ (b : Book) (c : Consistent b) where
  in-range : (s : ℕ) → InRange (sample_of b s)
  unfolding sample_at
  in-range s =
      record {
        channels = rw length-take (omega (arith, c.channels));
        dilution = dilution-most b c s;
        count = take_bound _ b.n (drop (b.n * s) b.counts) (λ j. rw get_or-drop (count_most b c (b.n * s + j)));
      }

  -- where a sample's counts stand
  pub counts-place : (s : ℕ) → s < b.summary.k → b.n * s + b.n ≤ 2048
  counts-place s l = omega (arith, counts-room b c, mul-suc b.n s, mul-le-mul {n₁ = b.n} (le_refl b.n) (next l))
    where
      next : s < b.summary.k → suc s ≤ b.summary.k
      next g = omega arith

  module _ (s i : ℕ) (h : i < b.n) where
    pub value-read : get_or b.counts (b.n * s + i) 0 * get_or b.dilutions s 0 ≡ z (sample_of b s) i
    unfolding z sample_at
    value-read =
        ap (λ x. x * get_or b.dilutions s 0)
        (sym (get_or-take b.n (drop (b.n * s) b.counts) i 0 h ∙ get_or-drop (b.n * s) b.counts i 0))

  pub value-small : (s i : ℕ) → z (sample_of b s) i ≤ z_limit
  value-small s i = z-bound (sample_of b s) (in-range s) i

  pub product_small : (s i j : ℕ) → z (sample_of b s) i * z (sample_of b s) j ≤ z_limit * z_limit
  product_small s i j = mul-le-mul (value-small s i) (value-small s j)

  -- what each sample gives, none of it above a bound
  module _ (f : Sample → ℕ) (most : ℕ) (bound : (s : ℕ) → f (sample_of b s) ≤ most) where
    pub total-held : sum_by (λ s. f (sample_of b s)) (downward 0 b.summary.k) ≡ total f (samples_in b)
    unfolding samples_in
    total-held = summed f (sample_of b) b.summary.k

    sum-small : (k : ℕ) → sum_by (λ s. f (sample_of b s)) (downward 0 k) ≤ k * most
    sum-small zero = omega arith
    sum-small (suc k) = rw sum_by-cons (omega (arith, bound k, sum-small k, suc-mul k most))

    pub sum-fits : 256 * most < 2 ^ 64 → sum_by (λ s. f (sample_of b s)) (downward 0 b.summary.k) < 2 ^ 64
    sum-fits h = omega (arith, sum-small b.summary.k, mul-le-mul_right most (few-held b c))

  -- a channel that is not there
  no_value : (s i : ℕ) → b.n ≤ i → z (sample_of b s) i ≡ 0
  unfolding z sample_at
  no_value s i h =
      let l : length (take b.n (drop (b.n * s) b.counts)) ≤ i = rw length-take (omega arith) in
      rw (get_or-eq_default (take b.n (drop (b.n * s) b.counts)) 0 l) (zero-mul _)

  pub no-channel : (i : ℕ) → b.n ≤ i → total (λ s. z s i) (samples_in b) ≡ 0
  unfolding samples_in
  no-channel i h = total-none (λ s. z s i) b.summary.k (sample_of b) (λ s. no_value s i h)

  -- a place below the diagonal, one of a channel that is not there, and the others
  pub below-diagonal : (p : ℕ) → p % 8 < p / 8 → 0 ≡ total (λ s. products s p) (samples_in b)
  unfolding products samples_in
  below-diagonal p h = sym (total-none (λ s. products s p) b.summary.k (sample_of b) (λ s. rw (lt-leb (p / 8) (p % 8) h)))

  pub no-pair : (p : ℕ) → b.n ≤ p % 8 → 0 ≡ total (λ s. products s p) (samples_in b)
  unfolding products samples_in
  no-pair p h =
      sym (total-none (λ s. products s p) b.summary.k (sample_of b) (λ s. rw (no_value s (p % 8) h, mul-zero) (cond_same (leb (p / 8) (p % 8)) 0)))

  pub pair-at : (p : ℕ) → p / 8 ≤ p % 8 →
      total (λ s. z s (p / 8) * z s (p % 8)) (samples_in b) ≡ total (λ s. products s p) (samples_in b)
  unfolding products
  pair-at p h = total_ext _ _ (samples_in b) (λ s. rw (le-leb (p / 8) (p % 8) h))

-- by which `Book::value_at` is proved
pub ruleset reading = (counts-place, few-held, value-read)
