-- Laws of this subject: The list of a function's values at 0, 1, .., and its laws; and what stands in a list of one value repeated.
use Rattle.std.specs.Prelude.{◌≡◌, List, [], ◌∷◌, ◌++◌, length, get_or, replicate, take}
use Rattle.std.proofs.Math.Path.{refl, ap}
use Rattle.std.proofs.Common.{sym, ◌∙◌, suc-add, zero-add, arith}
use Prim.Native.Nat.{ℕ, zero, suc, ◌+◌, ◌≤◌, ◌<◌}
use Rattle.integer.specs.Tabulate.{tabulate}

module _ {A : Type 0} where
  pub length-tabulate : (m : ℕ) (f : ℕ → A) → length (tabulate m f) ≡ m
  unfolding tabulate
  length-tabulate zero f = refl
  length-tabulate (suc m) f = ap suc (length-tabulate m (λ i. f (suc i)))

  pub get_d_tabulate : (m : ℕ) (f : ℕ → A) (i : ℕ) (d : A) → i < m → get_or (tabulate m f) i d ≡ f i
  unfolding tabulate
  get_d_tabulate zero f i d h = absurd (omega arith)
  get_d_tabulate (suc m) f zero d h = refl
  get_d_tabulate (suc m) f (suc i) d h = get_d_tabulate m (λ j. f (suc j)) i d (omega arith)

  -- one value more
  pub tabulate-suc : (m : ℕ) (f : ℕ → A) → tabulate (suc m) f ≡ tabulate m f ++ (f m ∷ [])
  unfolding tabulate
  tabulate-suc zero f = refl
  tabulate-suc (suc m) f = ap (λ l. f zero ∷ l) (tabulate-suc m (λ i. f (suc i)))

  pub tabulate-ext : (m : ℕ) (f g : ℕ → A) → ((i : ℕ) → i < m → f i ≡ g i) → tabulate m f ≡ tabulate m g
  unfolding tabulate
  tabulate-ext zero f g e = refl
  tabulate-ext (suc m) f g e = rw (e zero (omega arith), tabulate-ext m (λ i. f (suc i)) (λ i. g (suc i)) (λ i h. e (suc i) (omega arith)))

  -- two lists of values, one after the other
  pub tabulate-append : (m n : ℕ) (f : ℕ → A) → tabulate (m + n) f ≡ tabulate m f ++ tabulate n (λ i. f (m + i))
  unfolding tabulate
  tabulate-append zero n f = rw (zero-add n) (tabulate-ext n f (λ i. f (0 + i)) (λ i h. ap f (sym (zero-add i))))
  tabulate-append (suc m) n f =
      ap (λ k. tabulate k f) (suc-add m n)
      ∙ ap (λ l. f zero ∷ l)
      (tabulate-append m n (λ i. f (suc i))
      ∙ ap (λ l. tabulate m (λ i. f (suc i)) ++ l) (tabulate-ext n (λ i. f (suc (m + i))) (λ i. f (suc m + i)) (λ i h. ap f (sym (suc-add m i)))))

  -- the first n of more values
  pub take-tabulate : (n m : ℕ) (f : ℕ → A) (xs : List A) → n ≤ m → take n (tabulate m f ++ xs) ≡ tabulate n f
  unfolding tabulate
  take-tabulate zero m f xs h = refl
  take-tabulate (suc n) zero f xs h = absurd (omega arith)
  take-tabulate (suc n) (suc m) f xs h = ap (λ l. f zero ∷ l) (take-tabulate n m (λ i. f (suc i)) xs (omega arith))

  -- what holds of the default and of every value of f holds of every element
  pub tabulate-all : (P : A → Type 0) (m : ℕ) (f : ℕ → A) (d : A) → P d → ((i : ℕ) → P (f i)) → (i : ℕ) → P (get_or (tabulate m f) i d)
  unfolding tabulate
  tabulate-all P zero f d h g i = h
  tabulate-all P (suc m) f d h g zero = g zero
  tabulate-all P (suc m) f d h g (suc i) = tabulate-all P m (λ j. f (suc j)) d h (λ j. g (suc j)) i

  -- d repeated has d at every place, within and beyond
  pub get_d-repeated : (m i : ℕ) (d : A) → get_or (replicate m d) i d ≡ d
  get_d-repeated zero i d = refl
  get_d-repeated (suc m) zero d = refl
  get_d-repeated (suc m) (suc i) d = get_d-repeated m i d
