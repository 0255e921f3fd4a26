-- The laws of a table's entries, under any limit: they are symmetric, and each is within the limit, so that a load of them is never refused.
use Rattle.std.specs.Prelude.{◌≡◌, refl, List, [], ◌∷◌, ◌++◌, ℕ, zero, suc, ◌-◌, ◌*◌, ◌^◌, ◌≤◌, ℤ, pos, ◌-ℤ◌, nat_abs, length, map, take, replicate}
use Rattle.std.proofs.Math.Path.{ap}
use Rattle.std.proofs.Common.{sym, ◌∙◌, pow_pos}
use Rattle.std.proofs.Math.Nat.{mul_comm}
use Rattle.std.proofs.Math.ListN.{get_or, length-map, get_or-map}
use Rattle.integer.specs.Matrix.{Same, matrix_of}
use Rattle.integer.specs.Padded.{padded}
use Rattle.integer.specs.Matrix.{Symmetric}
use Rattle.integer.specs.laws.Padded.{padded-take}
use Rattle.integer.specs.laws.RowMajor.{length-row_major, row_major-at}
use Rattle.rounding.specs.Rounding.{rnd}
use Rattle.rounding.specs.laws.Nearest.{rnd-bound, rnd-zero}
use Rattle.readings.specs.Samples.{Sample, z, total}
use Rattle.readings.specs.laws.Samples.{total_ext}
use Rattle.scatter.specs.Table.{S, scatter, largest, shift_under, entries_under, table_from_under, table_under}
use Rattle.scatter.specs.laws.Shift.{shift-smallest}

-- 'rnd(S_ij / 2^e)' at a place of a list, for any e
entry-of : (us : List ℤ) (e p : ℕ) → get_or (map (λ u. rnd u (2 ^ e)) us) p (pos 0) ≡ rnd (get_or us p (pos 0)) (2 ^ e)
entry-of us e p =
    ap (λ d. get_or (map (λ u. rnd u (2 ^ e)) us) p d) (sym (rnd-zero (2 ^ e) (pow_pos e))) ∙ get_or-map (λ u. rnd u (2 ^ e)) us p (pos 0)

module _ (limit : ℕ) (us : List ℤ) where
  pub entry_at : (p : ℕ) → get_or (entries_under limit us) p (pos 0) ≡ rnd (get_or us p (pos 0)) (2 ^ shift_under limit us)
  unfolding entries_under
  entry_at p = entry-of us (shift_under limit us) p

  pub entries-within : 1 ≤ limit → (p : ℕ) → nat_abs (get_or (entries_under limit us) p (pos 0)) ≤ limit
  unfolding entries_under
  entries-within some p =
      rw (entry-of us (shift_under limit us) p)
      (rnd-bound (get_or us p (pos 0)) (2 ^ shift_under limit us) limit (pow_pos (shift_under limit us)) ((shift-smallest some us).within p))

  pub length-entries : length (entries_under limit us) ≡ length us
  unfolding entries_under
  length-entries = length-map us _

module _ (n : ℕ) (ss : List Sample) where
  by-products : (i j : ℕ) → pos (length ss * total (λ s. z s i * z s j) ss) -ℤ pos (total (λ s. z s i) ss * total (λ s. z s j) ss) ≡
      pos (length ss * total (λ s. z s j * z s i) ss) -ℤ pos (total (λ s. z s j) ss * total (λ s. z s i) ss)
  by-products i j = rw (total_ext _ _ ss (λ s. mul_comm (z s i) (z s j)), mul_comm (total (λ s. z s i) ss) (total (λ s. z s j) ss)) refl

  pub scatter-at : Same n (matrix_of n (scatter n ss)) (S ss)
  unfolding scatter
  scatter-at = row_major-at n (S ss)

  pub length-scatter : length (scatter n ss) ≡ n * n
  unfolding scatter
  length-scatter = length-row_major n (S ss)

  pub rounded-at : (e : ℕ) → Same n (matrix_of n (map (λ u. rnd u (2 ^ e)) (scatter n ss))) (λ i j. rnd (S ss i j) (2 ^ e))
  unfolding matrix_of
  rounded-at e i j h g = entry-of (scatter n ss) e _ ∙ ap (λ u. rnd u (2 ^ e)) (scatter-at i j h g)

  module _ (limit : ℕ) where
    pub entries_at : Same n (matrix_of n (entries_under limit (scatter n ss))) (λ i j. rnd (S ss i j) (2 ^ shift_under limit (scatter n ss)))
    unfolding entries_under
    entries_at = rounded-at (shift_under limit (scatter n ss))

    pub entries-symmetric : Symmetric n (matrix_of n (entries_under limit (scatter n ss)))
    unfolding entries_under S
    entries-symmetric i j h g =
        rounded-at (shift_under limit (scatter n ss)) i j h g
        ∙ ap (λ u. rnd u (2 ^ shift_under limit (scatter n ss))) (by-products i j) ∙ sym (rounded-at (shift_under limit (scatter n ss)) j i g h)

    -- the first n × n numbers of a table are its entries
    pub table-entries : take (n * n) (table_under limit n ss).entries ≡ entries_under limit (scatter n ss)
    unfolding table_under table_from_under
    table-entries =
        rw (← (length-entries limit (scatter n ss) ∙ length-scatter)) (padded-take 64 (pos 0) (entries_under limit (scatter n ss)))

-- zeros after a list add nothing to its greatest
pub largest-zeros : (k : ℕ) → largest (replicate k (pos 0)) ≡ 0
unfolding largest
largest-zeros zero = refl
largest-zeros (suc k) = rw (largest-zeros k)

largest-before : (us : List ℤ) (k : ℕ) → largest (us ++ replicate k (pos 0)) ≡ largest us
unfolding largest
largest-before [] k = largest-zeros k
largest-before (u ∷ us) k = rw (largest-before us k)

pub largest-padded : (m : ℕ) (us : List ℤ) → largest (padded m (pos 0) us) ≡ largest us
unfolding padded
largest-padded m us = largest-before us (m - length us)
