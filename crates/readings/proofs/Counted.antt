-- Whether a number is n times another, by quotient and remainder.
use Prim.Native.Nat.{ℕ, ◌*◌, ◌/◌, ◌%◌, ◌<◌}
use mathlib.Core.Path.{◌≡◌, sym, ◌∙◌}
use mathlib.Core.Bool.{false}
use native.Mathlib.Decide.{ℕ_discrete}
use native.Mathlib.Nat.{add-zero, div-add-mod, mul-div_right, mul-mod_right, zero-mul}
use lib.Dec.{eqb}
use borrow.Author.Tests.{eq-eqb, ne_eqb}

pub none-counted : (c n k : ℕ) → n ≡ 0 → eqb c 0 ≡ eqb c (n * k)
none-counted c n k e = rw (e, zero-mul)

pub left_over : (c n k : ℕ) → (c % n ≡ 0 → ⊥) → false ≡ eqb c (n * k)
left_over c n k f = sym (ne_eqb c (n * k) (λ e. f (rw e (mul-mod_right n k))))

pub whole-counted : (c n k : ℕ) → 0 < n → c % n ≡ 0 → eqb (c / n) k ≡ eqb c (n * k)
whole-counted c n k p r = by (ℕ_discrete (c / n) k)
  where
    by : Dec (c / n ≡ k) → eqb (c / n) k ≡ eqb c (n * k)
    by (yes q) = eq-eqb (c / n) k q ∙ sym (eq-eqb c (n * k) (sym (div-add-mod c n) ∙ rw (r, q, add-zero)))
    by (no f) = ne_eqb (c / n) k f ∙ sym (ne_eqb c (n * k) (λ e. f (rw e (mul-div_right k {m = n} p))))

-- by which `Samples::are_counted` is proved
pub ruleset counted = (ne_eqb, left_over, none-counted, whole-counted)
