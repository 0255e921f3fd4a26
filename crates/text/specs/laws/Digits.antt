-- Laws of the decimal digits: one more digit, how many there are at most, and the number that they read as.
use Rattle.std.specs.Prelude.{ℕ, zero, suc, ◌+◌, ◌-◌, ◌*◌, ◌/◌, ◌%◌, ◌^◌, ◌<◌, ◌≤◌, ◌≡◌, refl, Bool, true, false, List, [], ◌∷◌, ◌++◌, ltb, ℤ, pos}
use Rattle.std.specs.Prelude.{negsuc, length}
use Rattle.std.proofs.Common.{pow-suc, arith, ltb-true, ltb-false, lt-ltb, le-ltb, length-append}
use Rattle.std.proofs.Math.Nat.{one-le-pow}
use Rattle.std.specs.Int.Signed.{mag}
use Rattle.text.specs.Decimal.{digits_by, digits, number}
use Rattle.text.specs.Numeral.{value_from}

-- Any f from x on gives the same digits.
enough : (f g x : ℕ) (t : Bool) → ltb x 10 ≡ t → x ≤ f → x ≤ g → digits_by f x t ≡ digits_by g x t
unfolding digits_by
enough zero zero x t e hf hg = refl
enough zero (suc g) x true e hf hg = refl
enough zero (suc g) x false e hf hg = let b = ltb-false x 10 e in absurd (omega arith)
enough (suc f) zero x true e hf hg = refl
enough (suc f) zero x false e hf hg = let b = ltb-false x 10 e in absurd (omega arith)
enough (suc f) (suc g) x true e hf hg = refl
enough (suc f) (suc g) x false e hf hg =
    let b = ltb-false x 10 e in
    rw (enough f g (x / 10) (ltb (x / 10) 10) refl (omega arith) (omega arith))

pub one-digit : (x : ℕ) → x < 10 → digits x ≡ (48 + x) ∷ []
unfolding digits digits_by
one-digit zero h = refl
one-digit (suc n) h = rw (lt-ltb (suc n) 10 h)

pub more-digits : (x : ℕ) → 10 ≤ x → digits x ≡ digits (x / 10) ++ ((48 + x % 10) ∷ [])
unfolding digits digits_by
more-digits zero h = absurd (omega arith)
more-digits (suc n) h =
    rw (le-ltb (suc n) 10 h, enough n (suc n / 10) (suc n / 10) (ltb (suc n / 10) 10) refl (omega arith) (omega arith))

pub more-length : (x : ℕ) → 10 ≤ x → length (digits x) ≡ length (digits (x / 10)) + 1
more-length x h = simp (more-digits x h, length-append)

cases : (P : Type 0) (x : ℕ) (t : Bool) → ltb x 10 ≡ t → (x < 10 → P) → (10 ≤ x → P) → P
cases P x true e one more = one (ltb-true x 10 e)
cases P x false e one more = more (ltb-false x 10 e)

-- A number below 10^k has at most k digits.
pub length_digits : (k x : ℕ) → x < 10 ^ suc k → length (digits x) ≤ suc k
length_digits zero x h = rw (one-digit x (omega arith)) (omega arith)
length_digits (suc k) x h =
    cases _ x (ltb x 10) refl
    (λ one. rw (one-digit x one) (omega arith))
    (λ more. rw (more-length x more) (let p = pow-suc 10 (suc k) in omega (arith, length_digits k (x / 10) (omega arith))))

-- A number from 10^k on has more than k digits.
pub length-from : (k x : ℕ) → 10 ^ k ≤ x → suc k ≤ length (digits x)
length-from zero x h = cases _ x (ltb x 10) refl (λ one. rw (one-digit x one) (omega arith)) (λ more. rw (more-length x more) (omega arith))
length-from (suc k) x h =
    let p = pow-suc 10 k in
    let one : 1 ≤ 10 ^ k = one-le-pow k 10 (omega arith) in
    let few = length-from k (x / 10) (omega arith) in
    rw (more-length x (omega arith)) (omega arith)

pub length-natural : (x : ℕ) → x < 2 ^ 64 → length (digits x) ≤ 20
length-natural x h = length_digits 19 x (omega arith)

pub length-number : (z : ℤ) → mag z < 2 ^ 63 → length (number z) ≤ 20
unfolding number
length-number (pos n) h = omega (arith, length_digits 18 n (omega arith))
length-number (negsuc n) h = omega (arith, length_digits 18 (suc n) (omega arith))

value-append : (v : ℕ) (xs ys : List ℕ) → value_from v (xs ++ ys) ≡ value_from (value_from v xs) ys
unfolding value_from
value-append v [] ys = refl
value-append v (x ∷ xs) ys = value-append (v * 10 + (x - 48)) xs ys

reads-back : (f x : ℕ) → x ≤ f → value_from 0 (digits x) ≡ x
unfolding value_from
reads-back zero x h = rw (one-digit x (omega arith)) (omega arith)
reads-back (suc f) x h =
    cases _ x (ltb x 10) refl
    (λ one. rw (one-digit x one) (omega arith))
    (λ more. rw (more-digits x more, value-append, reads-back f (x / 10) (omega arith)) (omega arith))

-- The digits that are written are read as the number that they are of.
pub value-digits : (x : ℕ) → value_from 0 (digits x) ≡ x
value-digits x = reads-back x x (omega arith)
