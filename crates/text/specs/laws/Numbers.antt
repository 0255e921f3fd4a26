-- Laws of lines: one more field, one more number, and how long the numbers are at most.
use Rattle.std.specs.Prelude.{ℕ, ◌+◌, ◌<◌, ◌≤◌, ◌≡◌, refl, List, [], ◌∷◌, ◌++◌, map, ℤ, pos, length, take, drop, get_or}
use Rattle.std.proofs.Common.{sym, ap, ◌∙◌, append_assoc, append-nil, add-one, arith, length-append, take-append-drop, take-suc, take-take}
use Rattle.std.proofs.lemmas.List.{map-append}
use Rattle.text.specs.Decimal.{digits, number}
use Rattle.text.specs.Line.{further, line, numbers, number_fields, number_line, word_line, line_x}

pub further-append : (fs gs : List (List ℕ)) → further (fs ++ gs) ≡ further fs ++ further gs
unfolding further
further-append [] gs = refl
further-append (f ∷ fs) gs = rw (further-append fs gs, append_assoc)

pub numbers-append : (ys zs : List ℤ) → numbers (ys ++ zs) ≡ numbers ys ++ numbers zs
unfolding numbers
numbers-append ys zs = rw (map-append, further-append)

one_number : (z : ℤ) → numbers (z ∷ []) ≡ 9 ∷ number z
unfolding numbers further
one_number z = append-nil (9 ∷ number z)

-- One more of the first numbers.
pub numbers_more : (zs : List ℤ) (i : ℕ) → i < length zs
    → numbers (take (i + 1) zs) ≡ numbers (take i zs) ++ (9 ∷ number (get_or zs i (pos 0)))
numbers_more zs i h = rw (add-one, take-suc zs i (pos 0) h, numbers-append, one_number)

-- The first i numbers are no longer than the first n.
pub numbers-within : (zs : List ℤ) {i n : ℕ} → i ≤ n → length (numbers (take i zs)) ≤ length (numbers (take n zs))
numbers-within zs {i} {n} h =
    let e : numbers (take n zs) ≡ numbers (take i zs) ++ numbers (drop i (take n zs)) =
    ap numbers (sym (take-append-drop i (take n zs))) ∙ numbers-append (take i (take n zs)) (drop i (take n zs)) ∙ rw (take-take i n zs h) in
    rw (e, length-append) (omega arith)

-- Among the first n, number i has its room.
pub number-within : (zs : List ℤ) (i n : ℕ) → i < n → n ≤ length zs
    → length (numbers (take i zs)) + 1 + length (number (get_or zs i (pos 0))) ≤ length (numbers (take n zs))
number-within zs i n h k =
    let e = simp length-append at (ap length (numbers_more zs i (omega arith))) in
    omega (arith, numbers-within zs {i = i + 1} {n = n} (omega arith))

-- Numbers of which none has a tag: the first, and a tab before each other.
pub first-and-others : (zs : List ℤ) → 1 ≤ length zs → number_fields zs ≡ number (get_or zs 0 (pos 0)) ++ numbers (drop 1 zs)
unfolding number_fields
first-and-others [] h = absurd (omega arith)
first-and-others (z ∷ zs) h = refl

pub length-number-fields : (zs : List ℤ) → 1 ≤ length zs →
    length (number_fields zs) ≡ length (number (get_or zs 0 (pos 0))) + length (numbers (drop 1 zs))
length-number-fields zs h = rw (first-and-others zs h, length-append)

-- Lines, as they are written.
pub number-line : (tag : ℕ) (zs : List ℤ) → number_line tag zs ≡ (tag ∷ []) ++ numbers zs ++ (10 ∷ [])
unfolding number_line line numbers
number-line tag zs = refl

pub word-line : (tag : ℕ) (zs : List ℤ) (word : List ℕ) → word_line tag zs word ≡ (tag ∷ []) ++ numbers zs ++ (9 ∷ word) ++ (10 ∷ [])
unfolding word_line line numbers further
word-line tag zs word =
    ap (λ (l : List ℕ). (tag ∷ []) ++ l ++ (10 ∷ [])) (further-append (map number zs) (word ∷ [])) ∙ simp (append_assoc, append-nil)

pub refusal-line : (number at : ℕ) → line_x number at ≡ (88 ∷ []) ++ (((9 ∷ digits number) ++ (9 ∷ digits at)) ++ (10 ∷ []))
unfolding line_x line further
refusal-line number at = ap (λ (l : List ℕ). (88 ∷ []) ++ (((9 ∷ digits number) ++ l) ++ (10 ∷ []))) (append-nil (9 ∷ digits at))

pub length-number-line : (tag : ℕ) (zs : List ℤ) → length (number_line tag zs) ≡ length (numbers zs) + 2
length-number-line tag zs = simp (number-line, length-append) (omega arith)

pub length-word-line : (tag : ℕ) (zs : List ℤ) (word : List ℕ) → length (word_line tag zs word) ≡ length (numbers zs) + length word + 3
length-word-line tag zs word = simp (word-line, length-append) (omega arith)
