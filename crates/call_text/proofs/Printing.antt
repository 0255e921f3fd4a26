-- The texts that the writers put together, and the lines that they are.
use Prim.Native.Nat.{ℕ, zero, suc, ◌+◌, ◌*◌, ◌^◌, ◌≤◌, ◌<◌}
use mathlib.Core.Path.{◌≡◌, refl, sym, ap, ◌∙◌}
use mathlib.Core.Bool.{Bool, true, false}
use mathlib.Core.List.{List, [], ◌∷◌, ◌++◌, map, map-append, append_assoc, append-nil}
use native.Mathlib.Numerals.{add-one}
use native.Mathlib.Omega.{arith}
use denote.Array.{each}
use denote.Signed.{SInt}
use denote.Shadow.{shadow}
use mir.Syntax.{w64}
use mir.Val.{Val, bool_byte}
use lib.Dec.{lit<}
use lib.IntN.{ℤ, pos}
use lib.ListN.{length, take, get_or, length-append}
use lib.Seq.{take-suc, take_all}
use lib.Signed.{mag}
use mir.Facts.{to_z-of_z}
use Rattle.text.specs.Decimal.{digits, number}
use Rattle.text.specs.laws.Digits.{length-number}
use Rattle.text.specs.Put.{Put, part, with_part}
use Rattle.text.specs.laws.Numbers.{further-append}
use Rattle.text.specs.laws.Put.{put-part, same-put}
use Rattle.text.specs.Line.{line, further, numbers}
use Rattle.record.specs.declared.query.Answer.{Answer}
use Rattle.record.specs.declared.query.Answer.TheVariants.{Turned}
use Rattle.call_text.specs.Answers.{shown, shown_as}
use Rattle.call_text.specs.declared.answer.Told.{Told}

-- the first i numbers, each after a tab
unfoldable pub naturals : List ℕ → ℕ → List ℕ
naturals xs i = further (map digits (take i xs))

naturals_more : (xs : List ℕ) (i : ℕ) → i < length xs → naturals xs (i + 1) ≡ naturals xs i ++ (9 ∷ digits (get_or xs i 0))
unfolding naturals further
naturals_more xs i h = rw (add-one, take-suc xs i 0 h, map-append, further-append, append-nil)

-- how far a line is put: its tag and its first i numbers
pub record Begun (tag : ℕ) (xs : List ℕ) (i : ℕ) (e x : List ℕ) (r : ℕ) : Type 0 where
  pub puts : Put ((tag ∷ []) ++ naturals xs i) 0 e x r
  pub bounded : r ≤ 1 + 21 * i

module _ {tag : ℕ} (xs : List ℕ) {e : List ℕ} where
  pub line-begun : {x : List ℕ} {r : ℕ} → Put (tag ∷ []) 0 e x r → Begun tag xs 0 e x r
  unfolding naturals further
  line-begun p = record { puts = p; bounded = omega (arith, p.answer) }

  module _ (i : ℕ) {x y : List ℕ} {r s : ℕ} (b : Begun tag xs i e x r) where
    pub line-on : i < length xs → Put (9 ∷ digits (get_or xs i 0)) 0 (part (length x) r x) y s → s ≤ 21 →
        Begun tag xs (i + 1) e (with_part (length x) r x y) (r + s)
    line-on h q few = record {
      puts =
          same-put (append_assoc (tag ∷ []) (naturals xs i) _ ∙ ap (λ (t : List ℕ). tag ∷ t) (sym (naturals_more xs i h)))
          (put-part b.puts q);
      bounded = omega (arith, b.bounded, few);
    }

    pub line-put : i ≡ length xs → Put (10 ∷ []) 0 (part (length x) r x) y s →
        Put (line ((tag ∷ []) ∷ map digits xs)) 0 e (with_part (length x) r x y) (r + s)
    unfolding line naturals
    line-put e q = same-put (rw (e, take_all (length xs) xs (omega arith), append_assoc)) (put-part b.puts q)

pub axis-text : (entry : ℤ) (f : List ℕ) (zs : List ℤ) →
    ((65 ∷ []) ++ numbers (entry ∷ [])) ++ (9 ∷ f) ++ numbers zs ++ (10 ∷ [])
    ≡ line ((65 ∷ []) ∷ number entry ∷ f ∷ map number zs)
unfolding line further numbers
axis-text entry f zs = simp append_assoc

-- n numbers, each after a tab, are at most 21 bytes each.
pub numbers-bound : (zs : List ℤ) → ((i : ℕ) → mag (get_or zs i (pos 0)) < 2 ^ 63) → (n : ℕ) → length (numbers (take n zs)) ≤ 21 * n
unfolding numbers further
numbers-bound [] f zero = omega arith
numbers-bound [] f (suc n) = omega arith
numbers-bound (z ∷ zs) f zero = omega arith
numbers-bound (z ∷ zs) f (suc n) =
    let one = length-number z (f 0) in
    let rest = numbers-bound zs (λ i. f (suc i)) n in
    simp length-append (omega arith)

pub one-bound : (z : ℤ) → mag z < 2 ^ 63 → length (numbers (z ∷ [])) ≤ 21
unfolding numbers further
one-bound z h =
    let e : length (numbers (z ∷ [])) ≡ suc (length (number z)) = ap (λ (l : List ℕ). suc (length l)) (append-nil (number z)) in
    omega (arith, length-number z h)

-- a turn that was made, or not
pub turned-shown : (made : Bool) (t : Told) {z : List ℕ} → t.answer ≡ Turned made → z ≡ line ((84 ∷ []) ∷ digits (bool_byte made) ∷ []) → z ≡ shown t
unfolding shown shown_as
turned-shown made t e p = p ∙ by made ∙ sym (ap (λ (a : Answer). shown_as a t) e)
  where
    by : (made : Bool) → line ((84 ∷ []) ∷ digits (bool_byte made) ∷ []) ≡ shown_as (Turned made) t
    by true = refl
    by false = refl

-- the lines of a fixed text
pub loaded-line : line ((76 ∷ []) ∷ []) ≡ 76 ∷ 10 ∷ []
unfolding line further
loaded-line = refl

pub none-line : line ((81 ∷ []) ∷ (110 ∷ 111 ∷ 110 ∷ 101 ∷ []) ∷ []) ≡ 81 ∷ 9 ∷ 110 ∷ 111 ∷ 110 ∷ 101 ∷ 10 ∷ []
unfolding line further
none-line = refl

-- by which an answer's line is proved
pub ruleset shows = (to_z-of_z, loaded-line, turned-shown, none-line)

-- An element of an array of 64-bit signed numbers is one.
pub element-size : (xs : List ℤ) (us : List Val) (i : ℕ) → shadow (each ℤ (SInt w64).own_val xs us) → mag (get_or xs i (pos 0)) < 2 ^ 63
element-size [] us i p = lit< tt
element-size (x ∷ xs) [] i p = absurd p
element-size (x ∷ xs) (u ∷ us) zero p = p.0.1
element-size (x ∷ xs) (u ∷ us) (suc i) p = element-size xs us i p.1
