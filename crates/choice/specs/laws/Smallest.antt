-- The choice meets document 01's rule, and no other choice does.
use Rattle.std.specs.Prelude.{◌≡◌, refl, ◌≢◌, Bool, true, false, cond, ℕ, zero, suc, ◌+◌, ◌*◌, ◌<◌, ◌≤◌, eqb, ℤ, pos, negsuc, nat_abs, ◌-ℤ◌, ◌<ℤ◌}
use Rattle.std.specs.Prelude.{Option, Some, None}
use Rattle.std.proofs.Common.{sym, ◌∙◌, ap, ap₂, arith, ltb→lt, leb-true, leb-false, eqb-true}
use Rattle.std.proofs.Math.Decide.{ℕ_discrete, dec_lt}
use Rattle.std.proofs.lemmas.Bool.{eqb-false}
use Rattle.integer.specs.laws.Laws.{nat_abs-zero}
use Rattle.choice.specs.Choice.{choose, fits, smallest_fit, minus_sign, negative, turn_of}
use Rattle.choice.specs.Rule.{Fits, Fails, LeastFit, OneNegative, only-first, only-second, SignOf}
use Rattle.choice.specs.Rule.{Chosen, Chooses, zero-entry, a_turn, none-fits}
use Rattle.choice.specs.declared.Turn.{Turn}

-- what a search over `count` numbers from `first` on finds
data Found (y g : ℕ) (minus : Bool) (first count : ℕ) : Option Turn → Type 0 where
  found : {l : ℕ} → first ≤ l → l < first + count → Fits y g l → ((k : ℕ) → first ≤ k → k < l → Fails y g k) →
      Found y g minus first count (Some (turn_of l minus))
  nothing : ((k : ℕ) → first ≤ k → k < first + count → Fails y g k) → Found y g minus first count None

-- one more number before them, which does not fit
one_more : {y g : ℕ} {minus : Bool} {first count : ℕ} {choice : Option Turn} → Fails y g first → Found y g minus (suc first) count choice →
    Found y g minus first (suc count) choice
one_more {y} {g} {minus} {first} {count} e f = cases f
  where
    from : {m : ℕ} → ((k : ℕ) → suc first ≤ k → k < m → Fails y g k) → (k : ℕ) → first ≤ k → k < m → Fails y g k
    from h k o m = elim (ℕ_discrete k first) [ yes d ↦ rw d e | no d ↦ h k (omega arith) m ]

    cases : {choice : Option Turn} → Found y g minus (suc first) count choice → Found y g minus first (suc count) choice
    cases (found {l} o m t h) = found {l = l} (omega arith) (omega arith) t (from h)
    cases (nothing h) = nothing (from (λ k o m. h k o (omega arith)))

smallest-found : (y g : ℕ) (minus : Bool) (first count : ℕ) → Found y g minus first count (smallest_fit y g minus first count)
unfolding smallest_fit fits
smallest-found y g minus first zero = nothing (λ k o m. absurd (omega arith))
smallest-found y g minus first (suc count) = by-fit (fits y g first) refl (smallest-found y g minus (suc first) count)
  where
    by-fit : (t : Bool) → fits y g first ≡ t → Found y g minus (suc first) count (smallest_fit y g minus (suc first) count) →
        Found y g minus first (suc count) (cond t (Some (turn_of first minus)) (smallest_fit y g minus (suc first) count))
    by-fit true e f = found {l = first} (omega arith) (omega arith) (leb-true _ _ e) (λ k o m. absurd (omega arith))
    by-fit false e f = one_more (leb-false _ _ e) f

-- exactly one is negative, or not
not_negative : (x : ℕ) → ¬ (pos x <ℤ pos 0)
not_negative x h = omega (arith, ltb→lt x 0 h.lt)

none-negative : (x y : ℕ) → ¬ (OneNegative (pos x) (pos y))
none-negative x y (only-first h k) = not_negative x h
none-negative x y (only-second h k) = not_negative y k

both_negative : (x y : ℕ) → ¬ (OneNegative (negsuc x) (negsuc y))
both_negative x y (only-first h k) = k (record { lt = tt })
both_negative x y (only-second h k) = h (record { lt = tt })

one-negative : (apq difference : ℤ) → Dec (OneNegative apq difference)
one-negative (pos x) (pos y) = no (none-negative x y)
one-negative (pos x) (negsuc y) = yes (only-second (not_negative x) (record { lt = tt }))
one-negative (negsuc x) (pos y) = yes (only-first (record { lt = tt }) (not_negative y))
one-negative (negsuc x) (negsuc y) = no (both_negative x y)

-- The sign meets the rule
pub sign-rule : (apq difference : ℤ) → SignOf apq difference (minus_sign apq difference)
unfolding minus_sign negative
sign-rule (pos x) (pos y) = record { plus_one = λ o. absurd (none-negative x y o); minus_one = λ d. refl }
sign-rule (pos x) (negsuc y) = record { plus_one = λ o. refl; minus_one = λ d. absurd (d (only-second (not_negative x) (record { lt = tt }))) }
sign-rule (negsuc x) (pos y) = record { plus_one = λ o. refl; minus_one = λ d. absurd (d (only-first (record { lt = tt }) (not_negative y))) }
sign-rule (negsuc x) (negsuc y) = record { plus_one = λ o. absurd (both_negative x y o); minus_one = λ d. refl }

-- The choice meets the rule
pub choose-rule : (app aqq apq : ℤ) → Chooses app aqq apq (choose app aqq apq)
unfolding choose
choose-rule app aqq apq = by_zero (eqb (nat_abs apq) 0) refl
  where
    difference : ℤ
    difference = aqq -ℤ app

    y : ℕ
    y = 2 * nat_abs apq

    g : ℕ
    g = nat_abs difference

    minus : Bool
    minus = minus_sign apq difference

    by-search : {choice : Option Turn} → apq ≢ pos 0 → Found y g minus 1 14 choice → Chooses app aqq apq choice
    by-search z (found {l} o m t h) = a_turn (record { not-zero = z; size = smallest-fit; sign = sign-rule apq difference })
      where
        smallest-fit : LeastFit y g l
        smallest-fit = record { low = o; high = omega arith; fits = t; none_below = h }
    by-search z (nothing h) = none-fits (λ l o m. h l o (omega arith))

    by_zero : (t : Bool) → eqb (nat_abs apq) 0 ≡ t → Chooses app aqq apq (cond t None (smallest_fit y g minus 1 14))
    by_zero true e = zero-entry (nat_abs-zero apq (eqb-true (nat_abs apq) 0 e))
    by_zero false e = by-search (λ z. eqb-false (nat_abs apq) 0 e (ap nat_abs z)) (smallest-found y g minus 1 14)

pub chosen-rule : (app aqq apq : ℤ) (l : ℕ) (minus : Bool) → choose app aqq apq ≡ Some (turn_of l minus) → Chosen app aqq apq l minus
chosen-rule app aqq apq l minus e = of-turn (rw e at (choose-rule app aqq apq))
  where
    of-turn : Chooses app aqq apq (Some (turn_of l minus)) → Chosen app aqq apq l minus
    of-turn (a_turn h) = h

-- Only one l is the smallest that fits, and only one sign is as the rule says
smallest-unique : {y g l k : ℕ} → LeastFit y g l → LeastFit y g k → l ≡ k
smallest-unique {l = l} {k = k} f h = by_order (dec_lt l k) (dec_lt k l)
  where
    by_order : Dec (l < k) → Dec (k < l) → l ≡ k
    by_order (yes o) m = absurd (omega (arith, h.none_below l f.low o))
    by_order (no o) (yes m) = absurd (omega (arith, f.none_below k h.low m))
    by_order (no o) (no m) = omega arith

pub sign-unique : (apq difference : ℤ) {minus sign : Bool} → SignOf apq difference minus → SignOf apq difference sign → minus ≡ sign
sign-unique apq difference f h =
    elim (one-negative apq difference) [ yes o ↦ f.plus_one o ∙ sym (h.plus_one o) | no o ↦ f.minus_one o ∙ sym (h.minus_one o) ]

-- Only the choice meets the rule
pub choose-unique : (app aqq apq : ℤ) (choice : Option Turn) → Chooses app aqq apq choice → choice ≡ choose app aqq apq
choose-unique app aqq apq choice f = agree f (choose-rule app aqq apq)
  where
    agree : {choice other : Option Turn} → Chooses app aqq apq choice → Chooses app aqq apq other → choice ≡ other
    agree (zero-entry z) (zero-entry w) = refl
    agree (zero-entry z) (a_turn h) = absurd (h.not-zero z)
    agree (zero-entry z) (none-fits n) = refl
    agree (a_turn h) (zero-entry z) = absurd (h.not-zero z)
    agree (a_turn h) (a_turn k) = ap₂ (λ l minus. Some (turn_of l minus)) (smallest-unique h.size k.size) (sign-unique apq (aqq -ℤ app) h.sign k.sign)
    agree (a_turn {l} h) (none-fits n) = absurd (omega (arith, n l h.size.low h.size.high))
    agree (none-fits n) (zero-entry z) = refl
    agree (none-fits n) (a_turn {l} h) = absurd (omega (arith, n l h.size.low h.size.high))
    agree (none-fits n) (none-fits m) = refl
