-- Card 10: the shift and the entries of a table whose greatest |S| is 2,097,152 or 2,097,153.
use Rattle.std.specs.Prelude.{◌≡◌, refl, List, [], ◌∷◌, ℕ, ◌^◌, ◌<◌, pos, replicate}
use Rattle.std.proofs.Math.Path.{ap}
use Rattle.std.proofs.Common.{◌∙◌}
use Rattle.integer.specs.Matrix.{matrix_of, row_major}
use Rattle.integer.specs.Tabulate.{tabulate}
use Rattle.integer.specs.laws.Padded.{padded-at}
use Rattle.limits.specs.Limits.{entry_limit}
use Rattle.rounding.specs.Rounding.{rnd}
use Rattle.scatter.specs.Table.{S, scatter, largest, smallest_shift, shift, shift_under, entries, table_from_under, table_of, table_under}
use Rattle.scatter.specs.laws.Entries.{entries_at}
use Rattle.readings.specs.Samples.{Sample, sample, total, z}
use Rattle.cards.specs.Cards.{neg, Halved}

module _ (n : ℕ) (ss : List Sample) where
  pub at-the-limit : largest (scatter n ss) ≡ 2_097_152 → (table_of n ss).e ≡ 0
  unfolding table_under table_from_under smallest_shift shift_under
  at-the-limit h = rw h

  module _ (h : largest (scatter n ss) ≡ 2_097_153) where
    one : shift (scatter n ss) ≡ 1
    unfolding smallest_shift shift_under
    one = rw h

    halves : (rnd (pos 2_097_153) 2 ≡ pos 1_048_577) × (rnd (neg 2_097_153) 2 ≡ neg 1_048_577)
    unfolding rnd
    halves = (refl, refl)

    entry-halved : (i j : ℕ) → i < n → j < n → matrix_of n (table_of n ss).entries i j ≡ rnd (S ss i j) 2
    unfolding table_under table_from_under matrix_of
    entry-halved i j g f =
        padded-at 64 (pos 0) (entries (scatter n ss)) _ ∙ entries_at n ss entry_limit i j g f ∙ ap (λ e. rnd (S ss i j) (2 ^ e)) one

    pub beyond-it : Halved n ss
    unfolding table_under table_from_under
    beyond-it =
        record {
          shift = one;
          entry = λ i j g f e. entry-halved i j g f ∙ ap (λ u. rnd u 2) e ∙ halves.0;
          negated = λ i j g f e. entry-halved i j g f ∙ ap (λ u. rnd u 2) e ∙ halves.1;
        }

-- There are such samples: 1024 and 0 twice; 517, 511, 403 and 0 thrice; on the first of two channels.
unfoldable on_first : ℕ → Sample
on_first count = sample 1 (count ∷ 0 ∷ [])

there-are : (largest (scatter 2 (on_first 1024 ∷ replicate 2 (on_first 0))) ≡ 2_097_152) ×
    (largest (scatter 2 (on_first 517 ∷ on_first 511 ∷ on_first 403 ∷ replicate 3 (on_first 0))) ≡ 2_097_153)
unfolding tabulate row_major total z S scatter largest on_first
there-are = (refl, refl)
