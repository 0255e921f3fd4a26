-- Laws of sums put together: `plus_of` of the sums of two lists is the sums of both, and keeps to their bounds;
-- `minus_of` takes one sample's sums away, wherever it stands.
use Rattle.std.specs.Prelude.{◌≡◌, List, [], ◌∷◌, ◌++◌, ℕ, ◌+◌, ◌-◌, ◌*◌, ◌<◌, ◌≤◌}
use Rattle.std.proofs.Common.{add-mul, arith, length-append}
use Rattle.std.proofs.Math.Decide.{dec_lt}
use Rattle.std.proofs.Math.ListN.{length, get_or, get_or-eq_default}
use Rattle.integer.specs.Tabulate.{tabulate}
use Rattle.integer.specs.laws.Tabulate.{get_d_tabulate, length-tabulate, tabulate-all, tabulate-ext}
use Rattle.limits.specs.Limits.{most_samples}
use Rattle.readings.specs.Samples.{Sample, z, total}
use Rattle.readings.specs.laws.Samples.{total-append}
use Rattle.sums.specs.Sums.{products, totals, sums_of}
use Rattle.sums.specs.Combined.{placewise, plus_of, minus_of}
use Rattle.sums.specs.Ranges.{Bounded, Included, z_limit}
use Rattle.sums.specs.declared.Sums.{Sums}

module _ (m : ℕ) (v : Sample → ℕ → ℕ) where
  totals-plus : (ss rs : List Sample) → placewise m ◌+◌ (totals m v ss) (totals m v rs) ≡ totals m v (ss ++ rs)
  unfolding totals placewise
  totals-plus ss rs =
      tabulate-ext m _ _
      (λ p h. rw (
        get_d_tabulate m (λ p. total (λ s. v s p) ss) p 0 h,
        get_d_tabulate m (λ p. total (λ s. v s p) rs) p 0 h,
        total-append (λ s. v s p) ss rs,
      ))

  -- one sample's share of the totals
  share : (before after : List Sample) (s : Sample) (f : Sample → ℕ) →
      total f (before ++ s ∷ after) ≡ total f (before ++ after) + total f (s ∷ [])
  unfolding total
  share before after s f = rw (total-append f before (s ∷ after), total-append f before after) (omega arith)

  totals-minus : (before after : List Sample) (s : Sample) →
      placewise m ◌-◌ (totals m v (before ++ s ∷ after)) (totals m v (s ∷ [])) ≡ totals m v (before ++ after)
  unfolding totals placewise
  totals-minus before after s =
      tabulate-ext m _ _
      (λ p h. rw (
        get_d_tabulate m (λ p. total (λ s. v s p) (before ++ s ∷ after)) p 0 h,
        get_d_tabulate m (λ p. total (λ s. v s p) (s ∷ [])) p 0 h,
        share before after s (λ s. v s p),
      ) (omega arith))

  totals-included : (before after : List Sample) (s : Sample) (p : ℕ) →
      get_or (totals m v (s ∷ [])) p 0 ≤ get_or (totals m v (before ++ s ∷ after)) p 0
  unfolding totals
  totals-included before after s p = go (dec_lt p m)
    where
      go : Dec (p < m) → get_or (tabulate m (λ p. total (λ s. v s p) (s ∷ []))) p 0 ≤
          get_or (tabulate m (λ p. total (λ s. v s p) (before ++ s ∷ after))) p 0
      go (yes h) =
          rw (
            get_d_tabulate m (λ p. total (λ s. v s p) (before ++ s ∷ after)) p 0 h,
            get_d_tabulate m (λ p. total (λ s. v s p) (s ∷ [])) p 0 h,
            share before after s (λ s. v s p),
          ) (omega arith)
      go (no f) =
          let h : length (tabulate m (λ p. total (λ s. v s p) (s ∷ []))) ≤ p = rw length-tabulate (omega arith) in
          rw (get_or-eq_default (tabulate m (λ p. total (λ s. v s p) (s ∷ []))) 0 h) (omega arith)

pub sums-plus : (ss rs : List Sample) → plus_of (sums_of ss) (sums_of rs) ≡ sums_of (ss ++ rs)
unfolding sums_of plus_of
sums-plus ss rs = rw (totals-plus 8 z ss rs, totals-plus 64 products ss rs, length-append ss rs)

pub sums-minus : (before after : List Sample) (s : Sample) →
    minus_of (sums_of (before ++ s ∷ after)) (sums_of (s ∷ [])) ≡ sums_of (before ++ after)
unfolding sums_of minus_of
sums-minus before after s = rw (totals-minus 8 z before after s, totals-minus 64 products before after s, number)
  where
    number : length (before ++ s ∷ after) - 1 ≡ length (before ++ after)
    number = rw (length-append before (s ∷ after), length-append before after) (omega arith)

-- a sample's sums are part of those of any list that has it
pub sums-included : (before after : List Sample) (s : Sample) → Included (sums_of (s ∷ [])) (sums_of (before ++ s ∷ after))
unfolding sums_of
sums-included before after s =
    record {
      number = rw (length-append before (s ∷ after)) (omega arith);
      channel = totals-included 8 z before after s;
      cross = totals-included 64 products before after s;
    }

-- ---- sums added keep to the bounds of sums

placewise-most : (m j k b : ℕ) (xs ys : List ℕ) → ((p : ℕ) → get_or xs p 0 ≤ j * b) → ((p : ℕ) → get_or ys p 0 ≤ k * b) →
    (p : ℕ) → get_or (placewise m ◌+◌ xs ys) p 0 ≤ (j + k) * b
unfolding placewise
placewise-most m j k b xs ys f g =
    tabulate-all (λ x. x ≤ (j + k) * b) m (λ p. get_or xs p 0 + get_or ys p 0) 0 (omega arith)
    (λ p. rw (add-mul j k b) (omega (arith, f p, g p)))

pub plus-bounded : (a b : Sums) → Bounded a → Bounded b → a.k + b.k ≤ most_samples → Bounded (plus_of a b)
unfolding plus_of
plus-bounded a b p q h =
    record {
      number = h;
      channel = placewise-most 8 a.k b.k z_limit a.channel b.channel p.channel q.channel;
      cross = placewise-most 64 a.k b.k (z_limit * z_limit) a.cross b.cross p.cross q.cross;
    }
