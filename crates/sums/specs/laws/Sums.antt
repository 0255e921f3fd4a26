-- The laws of the layout of sums: one sample more, and what stands at a channel, at a pair of channels and at the other places.
use Rattle.std.specs.Prelude.{◌≡◌, List, [], ◌∷◌, ◌++◌, ℕ, ◌+◌, ◌*◌, ◌<◌, ◌≤◌, min, max, length, get_or}
use Rattle.std.proofs.Math.Path.{refl}
use Rattle.std.proofs.Common.{◌∙◌, add-zero, mul_comm, arith, le-leb}
use Rattle.std.proofs.Math.Nat.{max-eq_left, max-eq_right, min-eq_left, min-eq_right}
use Rattle.std.proofs.Math.Decide.{dec_le}
use Rattle.std.proofs.lemmas.Bool.{lt-leb}
use Rattle.std.proofs.Math.Arith.{digits_div, digits_mod}
use Rattle.integer.specs.laws.Tabulate.{get_d_tabulate, length-tabulate, tabulate-ext}
use Rattle.readings.specs.Samples.{Sample, z, total}
use Rattle.sums.specs.Sums.{products, totals, sums_of}
use Rattle.sums.specs.inner.Raised.{raised}
use Rattle.readings.specs.laws.Samples.{total-append, total_ext}

-- One sample more at the end
pub totals-more : (m : ℕ) (v : Sample → ℕ → ℕ) (ss : List Sample) (s : Sample) → raised m (v s) (totals m v ss) ≡ totals m v (ss ++ (s ∷ []))
unfolding totals raised total
totals-more m v ss s =
    tabulate-ext m _ _
    (λ p h. rw (get_d_tabulate m (λ p. total (λ s. v s p) ss) p 0 h, total-append (λ s. v s p) ss (s ∷ []), add-zero))

-- The place of a pair of channels
pub products_at : (s : Sample) (i j : ℕ) → i ≤ j → j < 8 → products s (8 * i + j) ≡ z s i * z s j
unfolding products
products_at s i j h g = rw (mul_comm 8 i, digits_div i {m = 8} g, digits_mod i {m = 8} g, le-leb i j h)

-- A place below the diagonal
products-below : (s : Sample) (i j : ℕ) → j < i → i < 8 → products s (8 * i + j) ≡ 0
unfolding products
products-below s i j h g = rw (mul_comm 8 i, digits_div i {m = 8} j-few, digits_mod i {m = 8} j-few, lt-leb i j h)
  where
    j-few : j < 8
    j-few = omega arith

total-zero : (ss : List Sample) → total (λ s. 0) ss ≡ 0
unfolding total
total-zero [] = refl
total-zero (s ∷ ss) = rw (total-zero ss)

module _ (ss : List Sample) where
  pub number_of : (sums_of ss).k ≡ length ss
  unfolding sums_of
  number_of = refl

  pub channel-of : (i : ℕ) → i < 8 → get_or (sums_of ss).channel i 0 ≡ total (λ s. z s i) ss
  unfolding sums_of totals
  channel-of i h = get_d_tabulate 8 (λ p. total (λ s. z s p) ss) i 0 h

  -- at any place of the cross sums
  pub cross_at : (p : ℕ) → p < 64 → get_or (sums_of ss).cross p 0 ≡ total (λ s. products s p) ss
  unfolding sums_of totals
  cross_at p h = get_d_tabulate 64 (λ p. total (λ s. products s p) ss) p 0 h

  above : (i j : ℕ) → i ≤ j → j < 8 → get_or (sums_of ss).cross (8 * i + j) 0 ≡ total (λ s. z s i * z s j) ss
  above i j h g = cross_at (8 * i + j) (omega arith) ∙ total_ext _ _ ss (λ s. products_at s i j h g)

  -- the sum of z_i×z_j, in either order of i and j
  pub cross-of : (i j : ℕ) → i < 8 → j < 8 → get_or (sums_of ss).cross (8 * min i j + max i j) 0 ≡ total (λ s. z s i * z s j) ss
  cross-of i j a b = go (dec_le i j)
    where
      go : Dec (i ≤ j) → get_or (sums_of ss).cross (8 * min i j + max i j) 0 ≡ total (λ s. z s i * z s j) ss
      go (yes h) = rw (min-eq_left h, max-eq_right h) (above i j h b)
      go (no f) =
          let h : j ≤ i = omega arith in
          rw (min-eq_right h, max-eq_left h) (above j i h a ∙ total_ext _ _ ss (λ s. mul_comm (z s j) (z s i)))

  pub cross-below : (i j : ℕ) → j < i → i < 8 → get_or (sums_of ss).cross (8 * i + j) 0 ≡ 0
  cross-below i j h g = cross_at (8 * i + j) (omega arith) ∙ total_ext _ _ ss (λ s. products-below s i j h g) ∙ total-zero ss

  -- and no other places
  pub length-channel : length (sums_of ss).channel ≡ 8
  unfolding sums_of totals
  length-channel = length-tabulate 8 _

  pub length-cross : length (sums_of ss).cross ≡ 64
  unfolding sums_of totals
  length-cross = length-tabulate 64 _
