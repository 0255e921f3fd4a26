-- A field's number, read digit by digit as `digits_onward` reads it, is `number_of`.
use Prim.Native.Nat.{ℕ, zero, suc, ◌+◌, ◌-◌, ◌*◌, ◌^◌, ◌<◌, ◌≤◌, zero-le}
use mathlib.Core.Path.{◌≡◌, refl}
use mathlib.Core.Bool.{Bool, true, false, cond, not, ◌&&◌, and-false}
use mathlib.Core.List.{List, [], ◌∷◌}
use mathlib.Core.Option.{Option, none, some}
use native.Mathlib.Nat.{zero-add, pow-le-pow_right}
use native.Mathlib.Omega.{arith}
use borrow.Author.Tests.{le-leb, lt-leb, lt-ltb, eqb-true, eqb-false}
use lib.Dec.{leb, ltb, eqb, leb-zero, leb-suc-zero, leb-suc-suc, lit<}
use lib.ListN.{length}
use Rattle.text.specs.Numeral.{leading_zero, value_from}
use Rattle.text.specs.inner.Numeral.{is_digit}
use Rattle.integer.specs.Within.{all_within}
use Rattle.integer.specs.laws.Within.{is_within}
use Rattle.job.specs.inner.FieldScan.{may_follow}
use Rattle.job.specs.Text.{number_in}

unfoldable pub more : ℕ → List ℕ → Option ℕ
more v [] = some v
more v (b ∷ bs) = cond (may_follow v b) (more (v * 10 + (b - 48)) bs) none

unfoldable pub numeral : List ℕ → Option ℕ
numeral [] = none
numeral (b ∷ bs) = cond (is_digit b) (more (b - 48) bs) none

may : (v b : ℕ) → 1 ≤ v → v ≤ 999999 → may_follow v b ≡ is_digit b
unfolding may_follow
may v b h g = simp (lt-ltb 0 v h, le-leb v 999999 g)

may-not : (v b : ℕ) → 1 ≤ v → 999999 < v → may_follow v b ≡ false
unfolding may_follow
may-not v b h g = simp (lt-ltb 0 v h, lt-leb v 999999 g)

-- A first digit, by whether it is one: t.
digit-step : (t : Bool) (x y : Option ℕ) (p q z : Bool) → (t ≡ true → x ≡ cond (p && q && z) y none) →
    cond t x none ≡ cond (p && (t && q) && z) y none
digit-step true x y p q z f = f refl
digit-step false x y p q z f = simp (and-false p)

-- v has e + 1 digits, and r more may follow.
more-is : (e r v : ℕ) (bs : List ℕ) → e + r ≡ 6 → 10 ^ e ≤ v → v < 10 ^ suc e →
    more v bs ≡ cond (leb (length bs) r && all_within 48 57 bs && true) (some (value_from v bs)) none
unfolding more all_within value_from
more-is e r v [] h lo hi = simp (leb-zero r)
more-is e zero v (b ∷ bs) h lo hi =
    let six : 6 ≤ e = omega arith in
    let big : 10 ^ 6 ≤ 10 ^ e = pow-le-pow_right (lit< tt) six in
    simp (may-not v b (omega arith) (omega arith), leb-suc-zero (length bs))
more-is e (suc r) v (b ∷ bs) h lo hi =
    let five : suc e ≤ 6 = omega arith in
    let one : 10 ^ 0 ≤ 10 ^ e = pow-le-pow_right (lit< tt) zero-le in
    let small : 10 ^ suc e ≤ 10 ^ 6 = pow-le-pow_right (lit< tt) five in
    simp (may v b (omega arith) (omega arith), leb-suc-suc (length bs) r)
    (digit-step (is_digit b) _ (some (value_from (v * 10 + (b - 48)) bs)) (leb (length bs) r) (all_within 48 57 bs) true
    (λ d. let range = is_within 48 57 b d in more-is (suc e) r (v * 10 + (b - 48)) bs (omega arith) (omega arith) (omega arith)))

zero-only : (bs : List ℕ) → more 0 bs ≡ cond (leb (length bs) 6 && all_within 48 57 bs && not (ltb 0 (length bs))) (some (value_from 0 bs)) none
unfolding more all_within value_from may_follow
zero-only [] = refl
zero-only (b ∷ bs) = simp (lt-ltb 0 (suc (length bs)) (omega arith), and-false)

-- A number whose first digit is b, by whether that is 0: t.
first-is : (b : ℕ) (bs : List ℕ) → is_digit b ≡ true → (t : Bool) → eqb b 48 ≡ t →
    more (b - 48) bs ≡ cond (leb (length bs) 6 && all_within 48 57 bs && not (t && ltb 0 (length bs))) (some (value_from (b - 48) bs)) none
first-is b bs d true e = rw (eqb-true b 48 e) (zero-only bs)
first-is b bs d false e =
    let range = is_within 48 57 b d in
    let other = eqb-false b 48 e in
    more-is 0 6 (b - 48) bs refl (omega arith) (omega arith)

pub number_is : (f : List ℕ) → numeral f ≡ number_in f
unfolding numeral number_in all_within leading_zero value_from
number_is [] = refl
number_is (b ∷ bs) =
    simp (lt-ltb 0 (suc (length bs)) (omega arith), leb-suc-suc (length bs) 6, zero-add (b - 48))
    (digit-step (is_digit b) _ (some (value_from (b - 48) bs)) (leb (length bs) 6) (all_within 48 57 bs) (not (eqb b 48 && ltb 0 (length bs)))
    (λ d. first-is b bs d (eqb b 48) refl))
