-- The parts of a text, by places of the text.
use Prim.Native.Nat.{ℕ, suc, ◌+◌, ◌≤◌, ◌<◌}
use mathlib.Core.Path.{◌≡◌, refl, sym, ap, ◌∙◌}
use mathlib.Core.Bool.{Bool, true, false, cond, not}
use mathlib.Core.List.{List, [], ◌∷◌}
use native.Mathlib.Numerals.{one-add}
use native.Mathlib.Nat.{add_assoc}
use native.Mathlib.Omega.{arith}
use borrow.Author.Tests.{lt-ltb, le-ltb, ltb-true, ltb-false}
use lib.Dec.{eqb, ltb}
use lib.ListN.{length, take, drop, length-drop}
use lib.Seq.{drop-drop}
use Rattle.std.proofs.Common.{None, Option, Some}
use Rattle.std.proofs.lemmas.Option.{cond_some}
use Rattle.std.specs.List.{position_or_len}
use Rattle.text.specs.Parts.{split, onto}
use Rattle.call_text.specs.inner.Parts.{Found, front}

-- the first s stands where the library's search finds it
front-is : (s : ℕ) (xs : List ℕ) → position_or_len (λ b. eqb b s) xs ≡ length (front s xs)
unfolding front
front-is s [] = refl
front-is s (b ∷ bs) = by (eqb b s) (front-is s bs)
  where
    by : (t : Bool) → position_or_len (λ b. eqb b s) bs ≡ length (front s bs) →
        cond (not t) (1 + position_or_len (λ b. eqb b s) bs) 0 ≡ length (cond t [] (b ∷ front s bs))
    by true e = refl
    by false e = rw (one-add, e)

front-within : (s : ℕ) (xs : List ℕ) → length (front s xs) ≤ length xs
unfolding front
front-within s [] = omega arith
front-within s (b ∷ bs) = by (eqb b s) (front-within s bs)
  where
    by : (t : Bool) → length (front s bs) ≤ length bs → length (cond t [] (b ∷ front s bs)) ≤ suc (length bs)
    by true h = omega arith
    by false h = omega arith

-- the search from the place `from` on answers o
module _ (text : List ℕ) (from s : ℕ) (h : from ≤ length text) (xs : List ℕ) (w : xs ≡ drop from text) (o : Option ℕ)
    (q : o ≡ cond (ltb (position_or_len (λ b. eqb b s) xs) (length xs)) (Some (position_or_len (λ b. eqb b s) xs)) None) where
  at-front : position_or_len (λ b. eqb b s) xs ≡ length (front s (drop from text))
  at-front = front-is s xs ∙ ap (λ (l : List ℕ). length (front s l)) w

  pub found_some : (k : ℕ) → o ≡ Some k → Found s text from (from + k)
  found_some k e =
      let v : position_or_len (λ b. eqb b s) xs ≡ k = (cond_some _ _ _ (sym q ∙ e)).1 in
      let p : length (front s (drop from text)) ≡ k = sym at-front ∙ v in
      record {
        is = omega arith;
        low = omega arith;
        high = omega (arith, front-within s (drop from text), length-drop from text);
      }

  pub found_none : o ≡ None → Found s text from (length text)
  found_none e =
      let n : length xs ≤ position_or_len (λ b. eqb b s) xs = ltb-false _ _ (no-value _ _ (sym q ∙ e)) in
      let m : length (drop from text) ≤ length (front s (drop from text)) = rw (← at-front, ← ap length w) n in
      let d = length-drop from text in
      let k = front-within s (drop from text) in
      record { is = omega arith; low = h; high = omega arith }
    where
      no-value : (t : Bool) (x : ℕ) → cond t (Some x) None ≡ None → t ≡ false
      no-value true x e = absurd (let z : ◌≡◌ {A = ℕ} 0 1 = cc in omega arith)
      no-value false x e = refl

pub take-front : (s : ℕ) (xs : List ℕ) → take (length (front s xs)) xs ≡ front s xs
unfolding front
take-front s [] = refl
take-front s (b ∷ bs) = by (eqb b s) (take-front s bs)
  where
    by : (t : Bool) → take (length (front s bs)) bs ≡ front s bs → take (length (cond t [] (b ∷ front s bs))) (b ∷ bs) ≡ cond t [] (b ∷ front s bs)
    by true e = refl
    by false e = rw e

-- the parts after the place `at`, which has an s or is the end
unfoldable pub parts_after : ℕ → List ℕ → ℕ → List (List ℕ)
parts_after s xs at = cond (ltb at (length xs)) (split s (drop (at + 1) xs)) []

pub parts-end : (s : ℕ) (xs : List ℕ) (at : ℕ) → length xs ≤ at → parts_after s xs at ≡ []
unfolding parts_after
parts-end s xs at h = simp (le-ltb at (length xs) h)

pub parts_more : (s : ℕ) (xs : List ℕ) (at : ℕ) → at < length xs → parts_after s xs at ≡ split s (drop (at + 1) xs)
unfolding parts_after
parts_more s xs at h = simp (lt-ltb at (length xs) h)

shift : (s : ℕ) (xs : List ℕ) (a n : ℕ) → parts_after s (drop a xs) n ≡ parts_after s xs (a + n)
shift s xs a n = by (ltb n (length (drop a xs))) refl
  where
    by : (t : Bool) → ltb n (length (drop a xs)) ≡ t → parts_after s (drop a xs) n ≡ parts_after s xs (a + n)
    by true e =
        let h = rw length-drop at (ltb-true n (length (drop a xs)) e) in
        parts_more s (drop a xs) n (ltb-true n (length (drop a xs)) e) ∙ rw (drop-drop, ← add_assoc) (sym (parts_more s xs (a + n) (omega arith)))
    by false e =
        let h = rw length-drop at (ltb-false n (length (drop a xs)) e) in
        parts-end s (drop a xs) n (ltb-false n (length (drop a xs)) e) ∙ sym (parts-end s xs (a + n) (omega arith))

split-whole : (s : ℕ) (xs : List ℕ) → split s xs ≡ front s xs ∷ parts_after s xs (length (front s xs))
unfolding split front onto
split-whole s [] = ap (λ (l : List (List ℕ)). [] ∷ l) (sym (parts-end s [] 0 (omega arith)))
split-whole s (b ∷ bs) = by (eqb b s) (split-whole s bs)
  where
    by : (t : Bool) → split s bs ≡ front s bs ∷ parts_after s bs (length (front s bs)) →
        cond t ([] ∷ split s bs) (onto b (split s bs)) ≡ cond t [] (b ∷ front s bs) ∷ parts_after s (b ∷ bs) (length (cond t [] (b ∷ front s bs)))
    by true e = ap (λ (l : List (List ℕ)). [] ∷ l) (sym (parts_more s (b ∷ bs) 0 (omega arith)))
    by false e = rw e (ap (λ (l : List (List ℕ)). (b ∷ front s bs) ∷ l) (shift s (b ∷ bs) 1 (length (front s bs)) ∙ rw one-add))

pub split-front : (s : ℕ) (xs : List ℕ) (a : ℕ) → split s (drop a xs) ≡ front s (drop a xs) ∷ parts_after s xs (a + length (front s (drop a xs)))
split-front s xs a = split-whole s (drop a xs) ∙ rw shift
