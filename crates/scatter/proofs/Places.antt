-- What the loops over a table's places write there, and the zeros that they start from.
use mathlib.Core.Path.{◌≡◌, sym, ◌∙◌}
use mathlib.Core.List.{List}
use Prim.Native.Nat.{ℕ, ◌+◌, ◌*◌, ◌/◌, ◌%◌, ◌^◌, ◌<◌, ◌≤◌, min, max}
use native.Mathlib.Nat.{mul-le-mul_left}
use native.Mathlib.Omega.{arith}
use lib.IntN.{ℤ, pos, nat_abs, ◌-ℤ◌}
use lib.ListN.{length, get_or, replicate, get_or-eq_default}
use lib.Pow.{pow_pos, pow_mono}
use mir.Syntax.{w64}
use mir.Val.{to_z, of_z}
use Rattle.integer.specs.laws.Word.{read_back, shifted_one}
use Rattle.integer.specs.Matrix.{matrix_of}
use Rattle.integer.specs.Padded.{padded}
use Rattle.integer.specs.Tabulate.{tabulate}
use Rattle.integer.specs.laws.Padded.{length-padded, padded-at}
use Rattle.integer.specs.laws.RowMajor.{length-row_major, row_major-at}
use Rattle.integer.specs.laws.Tabulate.{get_d_tabulate, get_d-repeated}
use Rattle.limits.specs.laws.Channels.{places}
use Rattle.rounding.specs.Rounding.{rnd}
use Rattle.rounding.specs.laws.Nearest.{rnd-bound, rnd-zero}
use Rattle.sums.specs.declared.Sums.{Sums}
use Rattle.sums.specs.inner.Ranges.{Bounded}
use Rattle.integer.specs.laws.Filled.{Filled, filled-skip, filled-all}
use Rattle.scatter.specs.inner.BySums.{SBySums, scatter_by_sums}
use Rattle.scatter.specs.inner.Ranges.{Roundable}
use Rattle.scatter.specs.laws.Bounds.{S-small}

abbrev pub zeros : List ℤ
zeros = replicate 64 (pos 0)

module _ (n : ℕ) (t : Sums) where
  -- S_ij at its place
  module _ (b : Bounded t) (i j : ℕ) (g : i < n) (f : j < n) where
    pub S-stored : (v : ℤ) (place at : ℕ) → v ≡ pos (t.k * get_or t.cross place 0) -ℤ pos (get_or t.channel i 0 * get_or t.channel j 0) →
        place ≡ 8 * min i j + max i j → at ≡ i * n + j → to_z w64 (of_z w64 v) ≡ get_or (padded 64 (pos 0) (scatter_by_sums n t)) at (pos 0)
    unfolding SBySums scatter_by_sums matrix_of
    S-stored v place at e l a =
        let is : v ≡ SBySums t i j = rw l at e in
        rw (is, a) (read_back (SBySums t i j) (omega (arith, S-small t b i j))
        ∙ sym (padded-at 64 (pos 0) (scatter_by_sums n t) (i * n + j) ∙ row_major-at n (SBySums t) i j g f))

  pub count : length (scatter_by_sums n t) ≡ n * n
  unfolding scatter_by_sums
  count = length-row_major n (SBySums t)

  -- past the last row
  pub no-entry : (p : ℕ) → n * n ≤ p → get_or (padded 64 (pos 0) (scatter_by_sums n t)) p (pos 0) ≡ pos 0
  no-entry p h = padded-at 64 (pos 0) (scatter_by_sums n t) p ∙ get_or-eq_default (scatter_by_sums n t) (pos 0) {n = p} (rw count h)

  pub all-rows : {s : List ℤ} (i at : ℕ) → n ≤ 8 → Filled (pos 0) (padded 64 (pos 0) (scatter_by_sums n t)) zeros s at → at ≡ i * n → i ≡ n →
      s ≡ padded 64 (pos 0) (scatter_by_sums n t)
  all-rows i at h f e g =
      let last : at ≡ n * n = rw g at e in
      let low : n * n ≤ 64 = places n h in
      filled-all (filled-skip f 64 (omega arith) (λ p a b. no-entry p (omega arith) ∙ sym (get_d-repeated 64 p (pos 0))))
      (length-padded 64 (pos 0) (scatter_by_sums n t) (rw count low)) (omega arith)

-- an element of numbers that are small, read back from its bits
element : (us : List ℤ) → Roundable us → (p : ℕ) → to_z w64 (of_z w64 (get_or us p (pos 0))) ≡ get_or us p (pos 0)
element us s p = read_back (get_or us p (pos 0)) (omega (arith, s.small p))

module _ (s : List ℤ) (small : Roundable s) (e : ℕ) (h : e < 62) (p : ℕ) where
  pub nearest-asks : (0 < (1 * 2 ^ e) % 2 ^ 64) × ((1 * 2 ^ e) % 2 ^ 64 < 2 ^ 63) ×
      (nat_abs (to_z w64 (of_z w64 (get_or s p (pos 0)))) + (1 * 2 ^ e) % 2 ^ 64 / 2 < 2 ^ 63)
  nearest-asks =
      let l : 2 ^ e ≤ 2 ^ 62 = pow_mono {i = e} {j = 62} (omega arith) in
      rw (shifted_one e (omega arith), element s small p) (pow_pos e, omega arith, omega (arith, small.small p))

  pub rounded : (v : ℤ) → v ≡ rnd (to_z w64 (of_z w64 (get_or s p (pos 0)))) ((1 * 2 ^ e) % 2 ^ 64) → p < 64 →
      to_z w64 (of_z w64 v) ≡ get_or (tabulate 64 (λ p. rnd (get_or s p (pos 0)) (2 ^ e))) p (pos 0)
  rounded v f g =
      let is : v ≡ rnd (get_or s p (pos 0)) (2 ^ e) = rw (element s small p, shifted_one e (omega arith)) at f in
      rw is (read_back (rnd (get_or s p (pos 0)) (2 ^ e)) (omega (arith, size, small.small p))
      ∙ sym (get_d_tabulate 64 (λ p. rnd (get_or s p (pos 0)) (2 ^ e)) p (pos 0) g))
    where
      grows : nat_abs (get_or s p (pos 0)) ≤ nat_abs (get_or s p (pos 0)) * 2 ^ e
      grows = omega (arith, mul-le-mul_left (nat_abs (get_or s p (pos 0))) (pow_pos e))

      size : nat_abs (rnd (get_or s p (pos 0)) (2 ^ e)) ≤ nat_abs (get_or s p (pos 0))
      size = rnd-bound (get_or s p (pos 0)) (2 ^ e) (nat_abs (get_or s p (pos 0))) (pow_pos e) grows

-- where there is a zero, one is rounded
pub rounded-zero : (s : List ℤ) (e p : ℕ) → get_or s p (pos 0) ≡ pos 0 → p < 64 →
    get_or (tabulate 64 (λ p. rnd (get_or s p (pos 0)) (2 ^ e))) p (pos 0) ≡ get_or zeros p (pos 0)
rounded-zero s e p z h =
    get_d_tabulate 64 (λ p. rnd (get_or s p (pos 0)) (2 ^ e)) p (pos 0) h ∙ rw z (rnd-zero (2 ^ e) (pow_pos e)) ∙ sym (get_d-repeated 64 p (pos 0))
