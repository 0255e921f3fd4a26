-- What the digits of a field come to, byte by byte.
use Prim.Native.Nat.{ℕ, zero, suc, ◌+◌, ◌-◌, ◌*◌, ◌^◌, ◌≤◌, ◌<◌}
use mathlib.Core.Path.{◌≡◌, refl, sym, ap, ◌∙◌}
use mathlib.Core.Bool.{Bool, true, false, cond, not, ◌&&◌, and-true, true≢false}
use mathlib.Core.List.{List, [], ◌∷◌}
use Rattle.std.proofs.Common.{None, Some}
use native.Mathlib.Nat.{pow-suc, pow-le-pow_right, mul-le-mul_right}
use native.Mathlib.Numerals.{add-one}
use native.Mathlib.Omega.{arith}
use Rattle.std.proofs.lemmas.Bool.{and_parts}
use borrow.Author.Tests.{ne_eqb, lt-leb, le-leb, lt-ltb, leb-true}
use lib.Dec.{eqb, leb, ltb, lit<}
use lib.IntN.{ℤ}
use mir.Facts.{to_z-of_z}
use lib.ListN.{length, take, drop, get_or, drop_of_length-le}
use lib.Seq.{drop-cons}
use Rattle.integer.specs.Signed.{signed}
use Rattle.text.specs.Numeral.{leading_zero, value_from}
use Rattle.integer.specs.Within.{all_within, within}
use Rattle.integer.specs.laws.Within.{is_within}
use Rattle.call_text.specs.Numbers.{beyond, digit_limit, numeral, signed_of, stands_for, unsigned_of, with_minus, without_minus}
use Rattle.std.specs.Cmp.Lexicographic.{pointwise}

-- the value r of a field of digits, of which those before byte i have the value v
module _ (r : ℕ) (f : List ℕ) (i v : ℕ) (q : r ≡ value_from v (drop i f)) where
  pub value-end : length f ≤ i → v ≡ r
  unfolding value_from
  value-end h = sym (q ∙ simp (drop_of_length-le f h))

  pub value-more : i < length f → (b : ℕ) → b ≡ get_or f i 0 → r ≡ value_from (v * 10 + (b - 48)) (drop (i + 1) f)
  unfolding value_from
  value-more h b p = q ∙ simp (drop-cons f i 0 h, ← p, add-one)

-- byte i is a digit, and so are those after it
module _ (f : List ℕ) (i : ℕ) (d : all_within 48 57 (drop i f) ≡ true) (h : i < length f) where
  parted : (within 48 57 (get_or f i 0) ≡ true) × (all_within 48 57 (drop (i + 1) f) ≡ true)
  unfolding all_within
  parted =
      let p : drop i f ≡ get_or f i 0 ∷ drop (i + 1) f = drop-cons f i 0 h ∙ rw (add-one i) in
      and_parts (within 48 57 (get_or f i 0)) (all_within 48 57 (drop (i + 1) f)) (sym (ap (all_within 48 57) p) ∙ d)

  pub a-digit : (48 ≤ get_or f i 0) × (get_or f i 0 ≤ 57)
  a-digit = is_within 48 57 _ parted.0

  pub later-digits : all_within 48 57 (drop (i + 1) f) ≡ true
  later-digits = parted.1

-- i digits have a value below 10^i
pub one_more : (i v b : ℕ) → v < 10 ^ i → b ≤ 57 → v * 10 + (b - 48) < 10 ^ (i + 1)
one_more i v b h e = rw (add-one, pow-suc) (omega arith)

pub nine-digits : (i n v : ℕ) → v < 10 ^ i → i < n → n ≤ digit_limit → v < 1000000000
nine-digits i n v h e k =
    let nine : i ≤ 9 = omega arith in
    let small : 10 ^ i ≤ 10 ^ 9 = pow-le-pow_right (lit< tt) nine in
    omega arith

-- whether a field has a leading zero, by its first two bytes
pub zero_short : (f : List ℕ) → length f < 2 → false ≡ leading_zero f
unfolding leading_zero
zero_short [] h = refl
zero_short (b ∷ []) h = by (eqb b 48)
  where
    by : (t : Bool) → false ≡ (t && ltb 0 0)
    by true = refl
    by false = refl
zero_short (b ∷ d ∷ bs) h = absurd (omega arith)

pub zero_first : (f : List ℕ) → 2 ≤ length f → get_or f 0 0 ≡ 48 → true ≡ leading_zero f
unfolding leading_zero
zero_first [] h e = absurd (omega arith)
zero_first (b ∷ []) h e = absurd (omega arith)
zero_first (b ∷ d ∷ bs) h e = rw e (simp (lt-ltb 0 (suc (length bs)) (omega arith)))

pub zero_no : (f : List ℕ) → 2 ≤ length f → (get_or f 0 0 ≡ 48 → ⊥) → false ≡ leading_zero f
unfolding leading_zero
zero_no [] h e = absurd (omega arith)
zero_no (b ∷ []) h e = absurd (omega arith)
zero_no (b ∷ d ∷ bs) h e = simp (ne_eqb b 48 e)

pub ruleset zeros = (zero_short, zero_first, zero_no)

numeral-only : (f : List ℕ) → numeral f ≡ true → all_within 48 57 f ≡ true
unfolding numeral
numeral-only f e =
    let d = (and_parts (ltb 0 (length f)) (not (leading_zero f) && all_within 48 57 f) e).1 in
    (and_parts (not (leading_zero f)) (all_within 48 57 f) d).1

-- a field's number, by whether it is a numeral
module _ (f : List ℕ) where
  pub natural_none : numeral f ≡ false → None ≡ unsigned_of f
  unfolding unsigned_of
  natural_none e = rw e

  module _ (e : numeral f ≡ true) where
    pub natural_long : digit_limit < length f → Some beyond ≡ unsigned_of f
    unfolding unsigned_of stands_for
    natural_long h = simp (e, lt-leb (length f) digit_limit h)

    pub natural_short : length f ≤ digit_limit → (v : ℕ) → v ≡ value_from 0 f → Some v ≡ unsigned_of f
    unfolding unsigned_of stands_for
    natural_short h v p = simp (e, le-leb (length f) digit_limit h, p)

    pub of_digits : all_within 48 57 f ≡ true
    of_digits = numeral-only f e

pub ruleset naturals = (natural_none, natural_long, natural_short, of_digits)

-- digits have a value below a power of ten
value-below : (f : List ℕ) (v : ℕ) → all_within 48 57 f ≡ true → value_from v f < (v + 1) * 10 ^ length f
unfolding value_from all_within within
value-below [] v e = omega arith
value-below (b ∷ bs) v e =
    let p = and_parts (within 48 57 b) (all_within 48 57 bs) e in
    let d = is_within 48 57 b p.0 in
    let h = value-below bs (v * 10 + (b - 48)) p.1 in
    let k : (v * 10 + (b - 48) + 1) * 10 ^ length bs ≤ (v + 1) * 10 * 10 ^ length bs = mul-le-mul_right (10 ^ length bs) (omega arith) in
    rw pow-suc (omega arith)

-- no number is above 9,999,999,999
stands-low : (f : List ℕ) → all_within 48 57 f ≡ true → stands_for f ≤ beyond
unfolding stands_for
stands-low f d = by (leb (length f) digit_limit) refl
  where
    by : (t : Bool) → leb (length f) digit_limit ≡ t → cond t (value_from 0 f) beyond ≤ beyond
    by true e =
        let small : 10 ^ length f ≤ 10 ^ digit_limit = pow-le-pow_right (lit< tt) (leb-true (length f) digit_limit e) in
        omega (arith, value-below f 0 d)
    by false e = omega arith

unsigned-low : (f : List ℕ) (x : ℕ) → unsigned_of f ≡ Some x → x ≤ beyond
unfolding unsigned_of
unsigned-low f x e = by (numeral f) refl e
  where
    by : (t : Bool) → numeral f ≡ t → cond t (Some (stands_for f)) None ≡ Some x → x ≤ beyond
    by true p e = let v : stands_for f ≡ x = cc in rw (← v) (stands-low f (numeral-only f p))
    by false p e = absurd (let z : ◌≡◌ {A = ℕ} 0 1 = cc in omega arith)

pub number-below : (f : List ℕ) (x : ℕ) → Some x ≡ unsigned_of f → x < 2 ^ 63
number-below f x e = omega (arith, unsigned-low f x (sym e))

-- a field, by its first byte: with a minus its digits stand after it
module _ (f : List ℕ) where
  module _ (e : pointwise eqb (take 1 f) (45 ∷ []) ≡ true) where
    minus : signed_of f ≡ with_minus (unsigned_of (drop 1 f))
    unfolding signed_of
    minus = by f e
      where
        by : (f : List ℕ) → pointwise eqb (take 1 f) (45 ∷ []) ≡ true → signed_of f ≡ with_minus (unsigned_of (drop 1 f))
        by [] e = absurd (true≢false (sym e))
        by (b ∷ bs) e = rw (and_parts (eqb b 45) true e).0

    pub minus-none : None ≡ unsigned_of (drop 1 f) → None ≡ signed_of f
    unfolding with_minus
    minus-none n = sym (minus ∙ rw (← n))

    pub minus-zero : (x : ℕ) → Some x ≡ unsigned_of (drop 1 f) → x ≡ 0 → None ≡ signed_of f
    unfolding with_minus
    minus-zero x n z = sym (minus ∙ rw (← n, z))

    pub minus-some : (x : ℕ) (y : ℤ) → Some x ≡ unsigned_of (drop 1 f) → (x ≡ 0 → ⊥) → y ≡ signed true x → Some y ≡ signed_of f
    unfolding with_minus signed
    minus-some zero y n z w = absurd (z refl)
    minus-some (suc x) y n z w = sym (minus ∙ rw (← n, w))

  module _ (e : pointwise eqb (take 1 f) (45 ∷ []) ≡ false) where
    plain : signed_of f ≡ without_minus (unsigned_of f)
    unfolding signed_of unsigned_of numeral without_minus
    plain = by f e
      where
        by : (f : List ℕ) → pointwise eqb (take 1 f) (45 ∷ []) ≡ false → signed_of f ≡ without_minus (unsigned_of f)
        by [] e = refl
        by (b ∷ bs) e = rw (rw and-true at e)

    pub plain-none : None ≡ unsigned_of f → None ≡ signed_of f
    unfolding without_minus
    plain-none n = sym (plain ∙ rw (← n))

    pub plain-some : (x : ℕ) (y : ℤ) → Some x ≡ unsigned_of f → y ≡ signed false x → Some y ≡ signed_of f
    unfolding without_minus signed
    plain-some x y n w = sym (plain ∙ rw (← n, w))

-- by which a field's value and its signed number are proved
pub ruleset values = (a-digit, later-digits, nine-digits, one_more, value-end, value-more)

pub ruleset signs = (to_z-of_z, number-below, plain-none, plain-some, minus-none, minus-zero, minus-some)
