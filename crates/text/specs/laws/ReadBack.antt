-- Digits and the number that they are of: what is written is read back, and what is read is written back.
use Rattle.std.specs.Prelude.{ℕ, zero, suc, ◌+◌, ◌-◌, ◌*◌, ◌/◌, ◌%◌, ◌<◌, ◌≤◌, ◌≡◌, refl, true, false, List, [], ◌∷◌, ◌++◌, length, get_or}
use Rattle.std.proofs.Common.{sym, ◌∙◌, append_assoc, append-nil, arith, eq-eqb, ne_eqb, le-leb, ltb-false, length-append}
use Rattle.std.proofs.Math.Decide.{dec_lt}
use Rattle.std.proofs.Math.ListN.{get_or-append}
use Rattle.text.specs.Decimal.{digits}
use Rattle.text.specs.laws.Digits.{one-digit, more-digits}
use Rattle.text.specs.inner.Numeral.{is_digit}
use Rattle.text.specs.Numeral.{leading_zero, value_from}
use Rattle.std.proofs.lemmas.Bool.{and_parts}
use Rattle.integer.specs.Within.{within, all_within}
use Rattle.integer.specs.laws.Within.{is_within, all_append}

-- ---- what is written

-- What a reader asks of the digits f of x: each is a decimal digit, there is one, and the first of a number from 1 on is not 0.
record AsRead (x : ℕ) (f : List ℕ) : Type 0 where
  decimal : all_within 48 57 f ≡ true
  some : 0 < length f
  first : 1 ≤ x → get_or f 0 0 ≡ 48 → ⊥

one-decimal : (x : ℕ) → x < 10 → all_within 48 57 ((48 + x) ∷ []) ≡ true
unfolding all_within within
one-decimal x h = simp (le-leb 48 (48 + x) (omega arith), le-leb (48 + x) 57 (omega arith))

one-read : (x : ℕ) → x < 10 → AsRead x ((48 + x) ∷ [])
one-read x h = record { decimal = one-decimal x h; some = omega arith; first = λ p e. omega arith }

more-read : (x : ℕ) → 10 ≤ x → AsRead (x / 10) (digits (x / 10)) → AsRead x (digits (x / 10) ++ ((48 + x % 10) ∷ []))
more-read x h d =
    record {
      decimal = all_append 48 57 _ _ d.decimal (one-decimal (x % 10) (omega arith));
      some = rw length-append (omega arith);
      first = λ p. rw (get_or-append (digits (x / 10)) _ 0 0 d.some) (d.first (omega arith));
    }

as_read : (f x : ℕ) → x ≤ f → AsRead x (digits x)
as_read zero x h = rw (one-digit x (omega arith)) (one-read x (omega arith))
as_read (suc f) x h = by (as_read f (x / 10)) (dec_lt x 10)
  where
    by : (x / 10 ≤ f → AsRead (x / 10) (digits (x / 10))) → Dec (x < 10) → AsRead x (digits x)
    by before (yes l) = rw (one-digit x l) (one-read x l)
    by before (no l) = let m : 10 ≤ x = omega arith in rw (more-digits x m) (more-read x m (before (omega arith)))

pub decimal-digits : (x : ℕ) → all_within 48 57 (digits x) ≡ true
decimal-digits x = (as_read x x (omega arith)).decimal

pub some-digit : (x : ℕ) → 0 < length (digits x)
some-digit x = (as_read x x (omega arith)).some

not-leading : (f : List ℕ) → (get_or f 0 0 ≡ 48 → ⊥) → leading_zero f ≡ false
unfolding leading_zero
not-leading [] h = refl
not-leading (b ∷ bs) h = simp (ne_eqb b 48 h)

pub no-leading-zero : (x : ℕ) → leading_zero (digits x) ≡ false
no-leading-zero zero = rw (one-digit 0 (omega arith)) (unfold leading_zero in refl)
no-leading-zero (suc x) = not-leading (digits (suc x)) ((as_read (suc x) (suc x) (omega arith)).first (omega arith))

-- ---- what is read

-- digits that follow those of a number from 1 on
digits_from : (v : ℕ) (f : List ℕ) → 1 ≤ v → all_within 48 57 f ≡ true → digits (value_from v f) ≡ digits v ++ f
unfolding all_within value_from
digits_from v [] h d = sym (append-nil (digits v))
digits_from v (b ∷ bs) h d =
    let p = and_parts (is_digit b) (all_within 48 57 bs) d in
    let range = is_within 48 57 b p.0 in
    let w = v * 10 + (b - 48) in
    let ten : 10 ≤ w = omega arith in
    let front : w / 10 ≡ v = omega arith in
    let last : 48 + w % 10 ≡ b = omega arith in
    digits_from w bs (omega arith) p.1 ∙ rw (more-digits w ten, front, last, append_assoc)

first-digit : (b : ℕ) → is_digit b ≡ true → digits (0 * 10 + (b - 48)) ≡ b ∷ []
first-digit b d =
    let range = is_within 48 57 b d in
    let same : 48 + (0 * 10 + (b - 48)) ≡ b = omega arith in
    rw (one-digit (0 * 10 + (b - 48)) (omega arith), same)

not-zero : (b c : ℕ) (cs : List ℕ) → leading_zero (b ∷ c ∷ cs) ≡ false → b ≡ 48 → ⊥
unfolding leading_zero
not-zero b c cs z e = omega (arith, ltb-false 0 (suc (length cs)) (simp (eq-eqb b 48 e) at z))

-- The number that is read from digits without a leading zero has those digits.
pub digits_value : (f : List ℕ) → 0 < length f → all_within 48 57 f ≡ true → leading_zero f ≡ false → digits (value_from 0 f) ≡ f
unfolding all_within value_from
digits_value [] h d z = absurd (omega arith)
digits_value (b ∷ []) h d z = first-digit b (and_parts (is_digit b) true d).0
digits_value (b ∷ c ∷ cs) h d z =
    let p = and_parts (is_digit b) (all_within 48 57 (c ∷ cs)) d in
    let range = is_within 48 57 b p.0 in
    let other = not-zero b c cs z in
    digits_from (0 * 10 + (b - 48)) (c ∷ cs) (omega arith) p.1 ∙ rw (first-digit b p.0)
