-- The numbers and lines of job text: what is written is read back, and what is read is written back.
use Prim.Native.Nat.{ℕ, zero, suc, ◌^◌, ◌<◌}
use mathlib.Core.Path.{◌≡◌, refl, sym, ap, ap₂, ◌∙◌}
use mathlib.Core.Bool.{Bool, true, false, cond, not, false≢true}
use mathlib.Core.List.{List, [], ◌∷◌, ◌++◌, map, append_assoc}
use mathlib.Core.Option.{Option, none, some}
use native.Mathlib.Omega.{arith}
use borrow.Author.Tests.{le-leb, lt-ltb, ltb-true, not-true, eq-eqb, ne_eqb, eqb-true}
use lib.Dec.{eqb, leb, ltb}
use lib.IntN.{pos}
use lib.ListN.{length, get_or}
use Rattle.text.specs.Decimal.{digits, number}
use Rattle.text.specs.laws.Digits.{length_digits, value-digits}
use Rattle.text.specs.Numeral.{leading_zero, value_from}
use Rattle.text.specs.Parts.{split, before}
use Rattle.std.proofs.lemmas.Bool.{and_parts}
use Rattle.integer.specs.Within.{all_within}
use Rattle.text.specs.laws.ReadBack.{decimal-digits, some-digit, no-leading-zero, digits_value}
use Rattle.text.specs.laws.Split.{Free, EachFree, followed, joined, followed-free, split-part, split-joined, joined-split}
use Rattle.text.specs.laws.Within.{all-free}
use Rattle.text.specs.Line.{further, line, number_line}
use Rattle.job.specs.Text.{number_in, numbers_of, is_tag, record_of, line_of}

-- ---- a number

number_read : (x : ℕ) → x < 10 ^ 7 → number_in (digits x) ≡ some x
unfolding number_in
number_read x h =
    let some = lt-ltb 0 (length (digits x)) (some-digit x) in
    let few = le-leb (length (digits x)) 7 (length_digits 6 x h) in
    simp (some, few, decimal-digits x, no-leading-zero x, value-digits x)

-- A test that has to hold for there to be an answer
chosen : {A : Type 0} (t : Bool) (o : Option A) (x : A) → cond t o none ≡ some x → (t ≡ true) × (o ≡ some x)
chosen true o x e = (refl, e)
chosen false o x e = let z : ◌≡◌ {A = ℕ} 0 1 = cc in absurd (omega arith)

number-written : (f : List ℕ) (x : ℕ) → number_in f ≡ some x → f ≡ digits x
unfolding number_in
number-written f x e =
    let c = chosen _ (some (value_from 0 f)) x e in
    let p = and_parts _ (not (leading_zero f)) c.0 in
    let q = and_parts _ (all_within 48 57 f) p.0 in
    let r = and_parts (ltb 0 (length f)) (leb (length f) 7) q.0 in
    let same : value_from 0 f ≡ x = let g = c.1 in cc in
    rw (← same) (sym (digits_value f (ltb-true 0 (length f) r.0) q.1 (not-true _ p.1)))

-- ---- the numbers of a line

-- Each has at most 7 digits.
abbrev pub Short : List ℕ → Type 0
Short xs = (i : ℕ) → get_or xs i 0 < 10 ^ 7

numbers-read : (xs : List ℕ) → Short xs → numbers_of (length xs) (map digits xs) ≡ some xs
unfolding numbers_of before
numbers-read [] h = refl
numbers-read (x ∷ xs) h = rw (number_read x (h 0), numbers-read xs (λ i. h (suc i)))

-- The fields that m numbers are read from are theirs.
record Written (m : ℕ) (fs : List (List ℕ)) (xs : List ℕ) : Type 0 where
  fields : fs ≡ map digits xs
  count : length xs ≡ m

numbers-written : (m : ℕ) (fs : List (List ℕ)) (xs : List ℕ) → numbers_of m fs ≡ some xs → Written m fs xs
unfolding numbers_of
numbers-written zero [] xs e = let q : [] ≡ xs = cc in rw (← q) (record { fields = refl; count = refl })
numbers-written zero (f ∷ fs) xs e = let z : ◌≡◌ {A = ℕ} 0 1 = cc in absurd (omega arith)
numbers-written (suc m) [] xs e = let z : ◌≡◌ {A = ℕ} 0 1 = cc in absurd (omega arith)
numbers-written (suc m) (f ∷ fs) xs e = by (number_in f) (number-written f) (numbers_of m fs) (numbers-written m fs) e
  where
    by : (o : Option ℕ) → ((x : ℕ) → o ≡ some x → f ≡ digits x)
        → (os : Option (List ℕ)) → ((ys : List ℕ) → os ≡ some ys → Written m fs ys)
        → before o os ≡ some xs → Written (suc m) (f ∷ fs) xs
    by none h os hs e = unfold before in (let z : ◌≡◌ {A = ℕ} 0 1 = cc in absurd (omega arith))
    by (some x) h none hs e = unfold before in (let z : ◌≡◌ {A = ℕ} 0 1 = cc in absurd (omega arith))
    by (some x) h (some ys) hs e =
        unfold before in (let q : x ∷ ys ≡ xs = cc in
        let w = hs ys refl in
        rw (← q) (record { fields = ap₂ ◌∷◌ (h x refl) w.fields; count = ap suc w.count }))

-- ---- a line: a tag and the numbers, each after a tab

-- without its line feed
abbrev pub bare : ℕ → List ℕ → List ℕ
bare tag xs = joined 9 ((tag ∷ []) ∷ map digits xs)

further-digits : (xs : List ℕ) → further (map number (map pos xs)) ≡ followed 9 (map digits xs)
unfolding further number
further-digits [] = refl
further-digits (x ∷ xs) = ap (λ l. (9 ∷ digits x) ++ l) (further-digits xs)

line-is : (tag : ℕ) (xs : List ℕ) → number_line tag (map pos xs) ≡ bare tag xs ++ (10 ∷ [])
unfolding number_line line
line-is tag xs = ap (λ l. (tag ∷ []) ++ l ++ (10 ∷ [])) (further-digits xs)

numbers-free : (s : ℕ) → s < 48 → (xs : List ℕ) → EachFree s (map digits xs)
numbers-free s h [] = tt
numbers-free s h (x ∷ xs) = (all-free 48 57 s h (digits x) (decimal-digits x), numbers-free s h xs)

-- The tag is neither a tab nor a line feed.
module _ (tag : ℕ) (h : 10 < tag) where
  -- a text that begins with the line
  pub line-parts : (xs rest : List ℕ) → split 10 (number_line tag (map pos xs) ++ rest) ≡ bare tag xs ∷ split 10 rest
  line-parts xs rest = rw (line-is tag xs, append_assoc) (split-part 10 (bare tag xs) rest free)
    where
      free : Free 10 (bare tag xs)
      free =
          let numbers = followed-free 10 9 (map digits xs) (λ (e : 9 ≡ 10). omega arith) (numbers-free 10 (omega arith) xs) in
          (λ (e : tag ≡ 10). omega arith, numbers)

  line-fields : (xs : List ℕ) → split 9 (bare tag xs) ≡ (tag ∷ []) ∷ map digits xs
  line-fields xs = split-joined 9 (tag ∷ []) (map digits xs) ((λ (e : tag ≡ 9). omega arith, tt), numbers-free 9 (omega arith) xs)

  pub line_read : (xs : List ℕ) → Short xs → line_of tag (length xs) (bare tag xs) ≡ some xs
  unfolding line_of record_of is_tag
  line_read xs short = rw (line-fields xs) (simp (eq-eqb tag tag refl) (numbers-read xs short))

  -- a line with another tag
  pub line_other : (other m : ℕ) (xs : List ℕ) → (tag ≡ other → ⊥) → line_of other m (bare tag xs) ≡ none
  unfolding line_of record_of is_tag
  line_other other m xs d = rw (line-fields xs) (simp (ne_eqb tag other d))

tag-alone : (tag : ℕ) (f : List ℕ) → is_tag tag f ≡ true → f ≡ tag ∷ []
unfolding is_tag
tag-alone tag [] e = absurd (false≢true e)
tag-alone tag (b ∷ []) e = rw (eqb-true b tag (and_parts (eqb b tag) true e).0)
tag-alone tag (b ∷ c ∷ cs) e = absurd (omega (arith, eqb-true (suc (length cs)) 0 (and_parts (eqb b tag) (eqb (suc (length cs)) 0) e).1))

-- The text that a line's numbers are read from is the line of these numbers.
pub record Line (tag m : ℕ) (text xs : List ℕ) : Type 0 where
  pub same : number_line tag (map pos xs) ≡ text ++ (10 ∷ [])
  pub count : length xs ≡ m

pub line-written : (tag m : ℕ) (text xs : List ℕ) → line_of tag m text ≡ some xs → Line tag m text xs
unfolding line_of record_of
line-written tag m text xs e = by (split 9 text) (joined-split 9 text) e
  where
    by : (fs : List (List ℕ)) → joined 9 fs ≡ text → record_of tag m fs ≡ some xs → Line tag m text xs
    by [] q e = let z : ◌≡◌ {A = ℕ} 0 1 = cc in absurd (omega arith)
    by (f ∷ fs) q e =
        let c = chosen (is_tag tag f) (numbers_of m fs) xs e in
        let w = numbers-written m fs xs c.1 in
        let whole : bare tag xs ≡ text = rw (tag-alone tag f c.0, w.fields) at q in
        record { same = line-is tag xs ∙ ap (λ l. l ++ (10 ∷ [])) whole; count = w.count }
