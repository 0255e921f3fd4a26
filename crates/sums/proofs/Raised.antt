-- Places of a list that are raised one after the other, and those that stay because nothing is added to them.
use mathlib.Core.Path.{◌≡◌, refl, sym, ap, ◌∙◌}
use mathlib.Core.List.{List}
use Prim.Native.Nat.{ℕ, suc, ◌+◌, ◌*◌, ◌/◌, ◌%◌, ◌<◌, ◌≤◌}
use mathlib.Core.Bool.{Bool, true, false, cond}
use native.Mathlib.Nat.{add-zero, zero-mul, mul-zero, mul_assoc, mul_comm}
use native.Mathlib.Decide.{dec_lt}
use borrow.Author.Tests.{lt-leb}
use lib.Dec.{leb}
use native.Mathlib.Omega.{arith}
use lib.ListN.{length, get_or, set, get_or-eq_default}
use Rattle.integer.specs.laws.Tabulate.{length-tabulate, get_d_tabulate}
use Rattle.integer.specs.laws.Filled.{Filled, filled_more, filled-skip, filled-all}
use Rattle.readings.specs.Samples.{Sample, z}
use Rattle.sums.specs.Sums.{products}
use Rattle.sums.specs.inner.Raised.{raised}
use Rattle.sums.specs.laws.Sums.{products_at}

module _ (m : ℕ) (f : ℕ → ℕ) (start : List ℕ) (size : length start ≡ m) where
  at_place : (p : ℕ) → p < m → get_or (raised m f start) p 0 ≡ get_or start p 0 + f p
  unfolding raised
  at_place p h = get_d_tabulate m (λ q. get_or start q 0 + f q) p 0 h

  pub raised-more : {xs : List ℕ} {at : ℕ} → Filled 0 (raised m f start) start xs at → (p next v : ℕ) → p ≡ at → next ≡ suc at → p < m → v ≡ f p →
      Filled 0 (raised m f start) start (set xs p (get_or xs p 0 + v)) next
  raised-more {xs} g p next v e n h same =
      filled_more g p next _ e n (omega (arith, g.size)) (rw (g.after p (omega arith), same) (sym (at_place p h)))

  pub raised-skip : {xs : List ℕ} {at : ℕ} → Filled 0 (raised m f start) start xs at → (to : ℕ) → at ≤ to → ((p : ℕ) → at ≤ p → p < to → f p ≡ 0) →
      Filled 0 (raised m f start) start xs to
  unfolding raised
  raised-skip {xs} {at} g to h none = filled-skip g to h (λ p a b. stays p a b (dec_lt p m))
    where
      stays : (p : ℕ) → at ≤ p → p < to → Dec (p < m) → get_or (raised m f start) p 0 ≡ get_or start p 0
      stays p a b (yes i) = at_place p i ∙ ap (λ v. get_or start p 0 + v) (none p a b) ∙ add-zero (get_or start p 0)
      stays p a b (no i) =
          get_or-eq_default (raised m f start) 0 (rw length-tabulate (omega arith))
          ∙ sym (get_or-eq_default start 0 (omega arith))

  pub raised_all : {xs : List ℕ} {at : ℕ} → Filled 0 (raised m f start) start xs at → m ≤ at → xs ≡ raised m f start
  unfolding raised
  raised_all g h = filled-all g (length-tabulate m _ ∙ sym size) (omega arith)

-- A channel that a sample lacks
pub no_value : (s : Sample) (i : ℕ) → length s.counts ≤ i → z s i ≡ 0
unfolding z
no_value s i h = rw (get_or-eq_default s.counts 0 h) (zero-mul s.dilution)

-- The product z_i × z_j, as it is computed
pub product_at : (s : Sample) (i j : ℕ) → i ≤ j → j < 8 →
    (get_or s.counts i 0 * s.dilution * s.dilution) * get_or s.counts j 0 ≡ products s (8 * i + j)
unfolding z
product_at s i j h g = regroup (get_or s.counts i 0) s.dilution (get_or s.counts j 0) ∙ sym (products_at s i j h g)
  where
    regroup : (a d b : ℕ) → (a * d * d) * b ≡ (a * d) * (b * d)
    regroup a d b = rw (mul_assoc (a * d) d b, mul_comm d b)

-- Places below the diagonal, and those of a channel that a sample lacks
pub no-product : (s : Sample) (p : ℕ) → (p % 8 < length s.counts → p % 8 < p / 8) → products s p ≡ 0
unfolding products
no-product s p h = go (dec_lt (p % 8) (length s.counts))
  where
    either : (t : Bool) → ◌≡◌ {A = ℕ} (cond t 0 0) 0
    either true = refl
    either false = refl

    go : Dec (p % 8 < length s.counts) → cond (leb (p / 8) (p % 8)) (z s (p / 8) * z s (p % 8)) 0 ≡ 0
    go (yes i) = rw (lt-leb (p / 8) (p % 8) (h i))
    go (no i) = rw (no_value s (p % 8) (omega arith), mul-zero) (either (leb (p / 8) (p % 8)))
