-- A load that is not refused gives a sound state: of its kept numbers none is rounded yet; and a table made from readings is such a load.
use Rattle.std.specs.Prelude.{◌≡◌, List, ℕ, zero, suc, ◌+◌, ◌*◌, ◌^◌, ◌<◌, ◌≤◌, ℤ, pos, nat_abs, ◌-ℤ◌, ◌*ℤ◌}
use Rattle.std.proofs.Common.{sym, ◌∙◌, ap, le_trans, mul-le-mul, arith, pow_pos, lt-ltb}
use Rattle.std.proofs.Math.IntN.{+ℤ_invr}
use Rattle.integer.specs.laws.Laws.{nat_abs-*ℤ, one-*ℤ}
use Rattle.integer.specs.Square.{sq}
use Rattle.integer.specs.laws.Square.{sq_pos}
use Rattle.integer.specs.Sum.{sumℕ}
use Rattle.integer.specs.laws.Sum.{sumℕ-cong}
use Rattle.integer.specs.laws.Dot.{dot-comm}
use Rattle.limits.specs.Limits.{entry_limit, units, whole}
use Rattle.integer.specs.Matrix.{Matrix, product, transpose, conjugate, diagonal, squares, matrix_of}
use Rattle.integer.specs.laws.Matrix.{diagonal-*, diagonal-transpose, diagonal-product, product-diagonal, dot-diagonal, diagonal-squares, squares-≤}
use Rattle.ledger.specs.laws.Accepted.{Loads}
use Rattle.ledger.specs.Ledger.{loaded_state, plain_state, samples_state}
use Rattle.ledger.specs.Near.{matrix_difference, axes_difference}
use Rattle.ledger.specs.Sound.{matrix_bound}
use Rattle.ledger.specs.laws.Sound.{Rounded, Sound, rounding}
use Rattle.readings.specs.Samples.{Sample, samples}
use Rattle.readings.specs.Refusal.{samples_refusal}
use Rattle.readings.specs.laws.Refusal.{are-readings, two-channels}
use Rattle.rounding.specs.laws.Nearest.{rnd-nearest}
use Rattle.scatter.specs.Table.{S, scatter, shift_under, entries_under}
use Rattle.scatter.specs.laws.Entries.{entries_at, entries-symmetric, entries-within, length-entries, length-scatter}

no_difference : (x y : ℤ) → x ≡ y → nat_abs (x -ℤ y) ≤ 0
no_difference x y e = rw (e, +ℤ_invr y) (omega arith)

-- P, the identity
I : Matrix
I = diagonal (pos 1)

conjugate-identity : (n : ℕ) (A : Matrix) (i j : ℕ) → i < n → j < n → conjugate n I A i j ≡ A i j
unfolding conjugate I
conjugate-identity n A i j o m = product-diagonal n (pos 1) (product n I A) i j m ∙ one-*ℤ (product n I A i j) ∙ diagonal-product n (pos 1) A i j o
    ∙ one-*ℤ (A i j)

-- the entries in units keep to the bound that holds before any turn
pub load-size : (n : ℕ) (numbers : List ℤ) → Loads n numbers → squares n
    (λ i j. pos units *ℤ matrix_of n numbers i j) ≤ matrix_bound 0 * matrix_bound 0
unfolding matrix_of
load-size n numbers h =
    le_trans
    (squares-≤ n (units * entry_limit) _ (λ i j o m. rw (nat_abs-*ℤ (pos units) (matrix_of n numbers i j)) (omega (arith, h.small (i * n + j)))))
    (mul-le-mul widest widest)
  where
    widest : n * (units * entry_limit) ≤ matrix_bound 0
    widest = omega (arith, h.high)

-- B is 1024 × A and V is 2^30 × Q exactly, with P the identity and D = 1
sound-load : (n : ℕ) (numbers : List ℤ) (scattered : Matrix) (shift : ℕ) → Loads n numbers → Rounded n (matrix_of n numbers) scattered shift →
    Sound (loaded_state n numbers scattered shift)
unfolding loaded_state matrix_of I
sound-load n numbers scattered shift h near = record {
  low = h.low;
  high = h.high;
  entries = small;
  given-symmetric = h.same;
  rounded = near;
  turns = omega arith;
  symmetric = λ i j o m. ap (λ z. pos units *ℤ z) (h.same i j o m);
  matrix-size = load-size n numbers h;
  axes-size = λ j o. omega (arith, diagonal-squares n (pos whole) j o, sq_pos whole);
  positive = omega arith;
  orthogonal = λ i j o m. diagonal-product n (pos 1) (transpose I) i j o ∙ one-*ℤ (I j i) ∙ diagonal-transpose (pos 1) i j;
  parseval = λ u. sumℕ-cong n (λ j o. ap sq (dot-comm n u (I j) ∙ dot-diagonal n (pos 1) u j o ∙ one-*ℤ (u j))) ∙ same (sumℕ n (λ k. sq (u k)));
  matrix-near = omega (arith, squares-≤ n 0 (matrix_difference n 1 I A B) exact-matrix);
  axes-near = omega (arith, squares-≤ n 0 (axes_difference 1 I (diagonal (pos whole))) exact-axes);
}
  where
    A : Matrix
    A = matrix_of n numbers

    B : Matrix
    B i j = pos units *ℤ A i j

    small : (i j : ℕ) → i < n → j < n → nat_abs (A i j) ≤ entry_limit
    small i j o m = h.small (i * n + j)

    same : (k : ℕ) → k ≡ 1 * 1 * k
    same k = omega arith

    exact-matrix : (i j : ℕ) → i < n → j < n → nat_abs (matrix_difference n 1 I A B i j) ≤ 0
    exact-matrix i j o m = no_difference _ _ (one-*ℤ (B i j) ∙ ap (λ z. pos units *ℤ z) (sym (conjugate-identity n A i j o m)))

    exact-axes : (i j : ℕ) → i < n → j < n → nat_abs (axes_difference 1 I (diagonal (pos whole)) i j) ≤ 0
    exact-axes i j o m = no_difference _ _ (one-*ℤ (diagonal (pos whole) i j) ∙ sym (diagonal-* (pos whole) (pos 1) i j))

-- 'S and e, which are A and 0 after a plain load'
pub sound-plain : (n : ℕ) (numbers : List ℤ) → Loads n numbers → Sound (plain_state n numbers)
unfolding plain_state
sound-plain n numbers h =
    sound-load n numbers (matrix_of n numbers) 0 h
    (λ i j o m. omega (arith, no_difference _ _ (one-*ℤ (matrix_of n numbers i j))))

-- rounded to nearest, and so exact where nothing is shifted
rounding-of : (e x : ℕ) → 2 * x ≤ 2 ^ e → 2 * x ≤ rounding e
rounding-of zero x h = omega arith
rounding-of (suc e) x h = rw (lt-ltb 0 (suc e) (omega arith)) h

-- the table of samples, under a limit up to today's
module _ (limit : ℕ) (some : 1 ≤ limit) (below : limit ≤ entry_limit) (n : ℕ) (ss : List Sample) (low : 2 ≤ n) (high : n ≤ 8) where
  abbrev us : List ℤ
  us = scatter n ss

  pub table-loads : Loads n (entries_under limit (scatter n ss))
  table-loads = record {
    low = low;
    high = high;
    count = length-entries limit us ∙ length-scatter n ss;
    small = λ p. le_trans (entries-within limit us some p) below;
    same = entries-symmetric n ss limit;
  }

  sound-table : Sound (loaded_state n (entries_under limit us) (S ss) (shift_under limit us))
  sound-table =
      sound-load n (entries_under limit us) (S ss) (shift_under limit us) table-loads
      (λ i j o m. rw (entries_at n ss limit i j o m)
      (rounding-of (shift_under limit us) _ (rnd-nearest (S ss i j) (2 ^ shift_under limit us) (pow_pos (shift_under limit us))).near))

-- samples that are not refused
module _ (limit : ℕ) (some : 1 ≤ limit) (below : limit ≤ entry_limit) (n : ℕ) (dilutions counts : List ℕ)
    (h : samples_refusal n dilutions counts ≡ 0) where
  pub samples-load : Loads n (entries_under limit (scatter n (samples n dilutions counts)))
  samples-load = table-loads limit some below n _ (two-channels n dilutions counts h) (are-readings n dilutions counts h).channels

  pub sound-samples : Sound (samples_state limit n dilutions counts)
  unfolding samples_state
  sound-samples =
      sound-table limit some below n (samples n dilutions counts) (two-channels n dilutions counts h) (are-readings n dilutions counts h).channels
