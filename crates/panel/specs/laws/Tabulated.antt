-- Laws of lists of values: the values of a function of them, and the values of a function of two indices, row after row.
use Rattle.std.specs.Prelude.{◌≡◌}
use Rattle.std.proofs.Math.Path.{refl, sym, ap, ap₂}
use Rattle.std.proofs.Common.{◌∙◌, add_comm, suc-mul, zero-mul, add-one}
use mathlib.Core.List.{List, ◌∷◌, ◌++◌, map, flat_map}
use Prim.Native.Nat.{ℕ, zero, suc, ◌+◌, ◌*◌, ◌/◌, ◌%◌, ◌<◌}
use Rattle.std.proofs.Math.Nat.{add-div_left, add-mod_left, div-eq_of_lt, mod-eq_of_lt}
use Rattle.integer.specs.Tabulate.{tabulate}
use Rattle.integer.specs.laws.Tabulate.{tabulate-append, tabulate-ext}

module _ {A B : Type 0} where
  pub map-tabulate : (g : A → B) (m : ℕ) (f : ℕ → A) → map g (tabulate m f) ≡ tabulate m (λ i. g (f i))
  unfolding tabulate
  map-tabulate g zero f = refl
  map-tabulate g (suc m) f = ap (λ l. g (f zero) ∷ l) (map-tabulate g m (λ i. f (suc i)))

  -- a row of n values for each of m indices
  pub rows-tabulate : (n m : ℕ) → 0 < n → (g : A → List B) (h : ℕ → A) (f : ℕ → ℕ → B) → ((i : ℕ) → g (h i) ≡ tabulate n (f i)) →
      flat_map g (tabulate m h) ≡ tabulate (m * n) (λ k. f (k / n) (k % n))
  unfolding tabulate flat_map
  rows-tabulate n zero l g h f e = rw (zero-mul n)
  rows-tabulate n (suc m) l g h f e =
      let value : ℕ → B = λ k. f (k / n) (k % n) in
      let first : tabulate n (f 0) ≡ tabulate n value = tabulate-ext n (f 0) value (λ i k. rw (div-eq_of_lt k, mod-eq_of_lt k)) in
      let later : tabulate (m * n) (λ k. f (suc (k / n)) (k % n)) ≡ tabulate (m * n) (λ k. value (n + k)) =
      tabulate-ext (m * n) (λ k. f (suc (k / n)) (k % n)) (λ k. value (n + k)) (λ k i. rw (add-div_left k l, add-mod_left n k, add-one)) in
      ap₂ ◌++◌ (e 0 ∙ first) (rows-tabulate n m l g (λ i. h (suc i)) (λ i. f (suc i)) (λ i. e (suc i)) ∙ later)
      ∙ sym (tabulate-append n (m * n) value)
      ∙ ap (λ k. tabulate k value) (add_comm n (m * n) ∙ sym (suc-mul m n))
