-- What a line's fields come to, one after the other, and what is left of them in the lent array.
use Prim.Native.Nat.{ℕ, suc, ◌+◌, ◌-◌, ◌≤◌, ◌<◌}
use mathlib.Core.Path.{◌≡◌, refl, sym, ap, ◌∙◌}
use mathlib.Core.Bool.{Bool, true, false, cond}
use mathlib.Core.List.{List, [], ◌∷◌, ◌++◌, append-nil, append_assoc}
use Rattle.std.proofs.Common.{None, Option, Some, option_map}
use native.Mathlib.Numerals.{add-one}
use native.Mathlib.Omega.{arith}
use borrow.Author.Tests.{le-leb, lt-leb}
use lib.Dec.{leb}
use lib.IntN.{ℤ}
use lib.ListN.{length, take, drop, get_or, set, length-append, length-set, take-append-drop}
use lib.Seq.{drop-drop, drop-set-lt, get_or-take, length-take-le, take-nil, take-suc-set}
use Rattle.text.specs.Parts.{split}
use Rattle.call_text.specs.Fields.{of_fields, with_numbers}
use Rattle.call_text.specs.Numbers.{each_number, signed_of}
use Rattle.call_text.specs.Requests.{leading, left_by, left_in, onward}
use Rattle.call_text.specs.inner.Parts.{front}
use Rattle.call_text.specs.inner.Read.{FieldsRead, counted, fields_by}
use Rattle.call_text.specs.declared.line.Fields.{Fields}
use Rattle.call_text.proofs.Splitting.{parts_after, parts-end, parts_more, split-front, take-front}

-- numbers that follow others
unfoldable pub prepend : List ℤ → Option (List ℤ) → Option (List ℤ)
prepend xs None = None
prepend xs (Some ys) = Some (xs ++ ys)

prepend-one : (xs : List ℤ) (x : ℤ) (o : Option (List ℤ)) → prepend xs (option_map (λ ys. x ∷ ys) o) ≡ prepend (xs ++ (x ∷ [])) o
unfolding prepend
prepend-one xs x None = refl
prepend-one xs x (Some ys) = ap Some (sym (append_assoc xs (x ∷ []) ys))

prepend-none : (o : Option (List ℤ)) → o ≡ prepend [] o
unfolding prepend
prepend-none None = refl
prepend-none (Some xs) = refl

-- a line whose first numbers are xs, and that has these fields after them
unfoldable pub resumed : ℕ → ℕ → List ℤ → List (List ℕ) → Option Fields
resumed most tag xs fs = cond (leb (length xs + length fs) most) (with_numbers counted tag (prepend xs (each_number fs))) None

-- how far a line is read: the numbers so far are at the front of the array, and the fields from `at` on are to be read
pub record Reading (line : List ℕ) (entry : List ℤ) (tag : ℕ) (numbers : List ℤ) (count at : ℕ) : Type 0 where
  pub size : length numbers ≡ length entry
  pub few : count ≤ length entry
  pub stays : drop count numbers ≡ drop count entry
  pub is : fields_by (length entry) (split 9 line) ≡ resumed (length entry) tag (take count numbers) (parts_after 9 line at)
  pub kept : left_by (length entry) (split 9 line) ≡ take count numbers ++ take (length entry - count) (leading (parts_after 9 line at))

-- no field is read
untagged : (most : ℕ) (f : List ℕ) (fs : List (List ℕ)) → (length f ≡ 1 → ⊥) → (fields_by most (f ∷ fs) ≡ None) × (left_by most (f ∷ fs) ≡ [])
unfolding fields_by of_fields left_by
untagged most [] fs h = (refl, refl)
untagged most (b ∷ []) fs h = absurd (h refl)
untagged most (b ∷ d ∷ bs) fs h = (refl, refl)

tagged : (most : ℕ) (f : List ℕ) (fs : List (List ℕ)) → length f ≡ 1
    → (fields_by most (f ∷ fs) ≡ resumed most (get_or f 0 0) [] fs) × (left_by most (f ∷ fs) ≡ take most (leading fs))
unfolding fields_by of_fields left_by resumed
tagged most [] fs h = absurd (omega arith)
tagged most (b ∷ []) fs h =
    let z : 0 + length fs ≡ length fs = omega arith in
    (rw z (ap (λ (o : Option (List ℤ)). cond (leb (length fs) most) (with_numbers counted b o) None) (prepend-none (each_number fs))), refl)
tagged most (b ∷ d ∷ bs) fs h = absurd (omega arith)

module _ (line : List ℕ) (entry : List ℤ) (end : ℕ) (q : end ≡ 0 + length (front 9 (drop 0 line))) where
  parts : split 9 line ≡ front 9 line ∷ parts_after 9 line end
  parts = split-front 9 line 0 ∙ rw q

  pub no-tag : (end ≡ 1 → ⊥) → FieldsRead line entry entry None
  unfolding left_in
  no-tag h =
      let u = untagged (length entry) (front 9 line) (parts_after 9 line end) (λ e. h (omega arith)) in
      record { is = sym (rw parts u.0); leaves = sym (rw (parts, u.1) refl) }

  pub start : end ≡ 1 → Reading line entry (get_or line 0 0) entry 0 end
  start h =
      let l : length (front 9 line) ≡ 1 = omega arith in
      let t : get_or (front 9 line) 0 0 ≡ get_or line 0 0 =
      sym (ap (λ (xs : List ℕ). get_or xs 0 0) (rw l at (take-front 9 line))) ∙ get_or-take 1 line 0 0 (omega arith) in
      let u = tagged (length entry) (front 9 line) (parts_after 9 line end) l in
      let z : length entry - 0 ≡ length entry = omega arith in
      record {
        size = refl;
        few = omega arith;
        stays = refl;
        is = rw parts (u.0 ∙ rw t);
        kept = rw (parts, z) u.1;
      }

module _ (line : List ℕ) (entry : List ℤ) (tag : ℕ) (numbers : List ℤ) (count at : ℕ) (r : Reading line entry tag numbers count at) where
  sized : length (take count numbers) ≡ count
  sized = length-take-le count numbers (omega (arith, r.few, r.size))

  -- nothing more is read: the array has the numbers so far, and is as it was after them
  left : take (length entry - count) (leading (parts_after 9 line at)) ≡ [] → numbers ≡ left_in entry line
  unfolding left_in
  left e =
      let f : left_by (length entry) (split 9 line) ≡ take count numbers = r.kept ∙ rw e (append-nil _) in
      sym (rw (f, sized, ← r.stays) (take-append-drop count numbers))

  pub line-end : length line ≤ at → FieldsRead line entry numbers (Some (record { tag = tag; count = count }))
  unfolding resumed prepend with_numbers counted each_number leading
  line-end h =
      let p = parts-end 9 line at h in
      let s : count + 0 ≤ length entry = omega (arith, r.few) in
      let z : take (length entry - count) (leading (parts_after 9 line at)) ≡ [] = rw p (take-nil (length entry - count)) in
      record {
        is = sym (r.is ∙ rw (p, append-nil, sized, le-leb (count + 0) (length entry) s) refl);
        leaves = left z;
      }

  module _ (h : at < length line) (end : ℕ) (e : end ≡ at + 1 + length (front 9 (drop (at + 1) line))) where
    abbrev field : List ℕ
    field = take (end - (at + 1)) (drop (at + 1) line)

    next : parts_after 9 line at ≡ field ∷ parts_after 9 line end
    next =
        let l : end - (at + 1) ≡ length (front 9 (drop (at + 1) line)) = omega arith in
        let f : front 9 (drop (at + 1) line) ≡ field = sym (rw l (take-front 9 (drop (at + 1) line))) in
        parts_more 9 line at h ∙ split-front 9 line (at + 1) ∙ rw (← f, ← e) refl

    pub line-full : length numbers ≤ count → FieldsRead line entry numbers None
    unfolding resumed
    line-full k =
        let z : length entry - count ≡ 0 = omega (arith, r.size) in
        let s : length entry < length (take count numbers) + suc (length (parts_after 9 line end)) = omega (arith, sized, r.size) in
        record { is = sym (r.is ∙ rw next (simp (lt-leb _ _ s))); leaves = left (rw z) }

    pub line-bad : None ≡ signed_of field → FieldsRead line entry numbers None
    unfolding resumed prepend with_numbers counted each_number leading onward
    line-bad n =
        let o = sym n in
        record {
          is = sym (r.is ∙ rw (next, o) (both (leb (length (take count numbers) + suc (length (parts_after 9 line end))) (length entry))));
          leaves = left (rw (next, o) (take-nil (length entry - count)));
        }
      where
        both : (t : Bool) → ◌≡◌ {A = Option Fields} (cond t None None) None
        both true = refl
        both false = refl

    pub line-more : count < length numbers → (x : ℤ) → Some x ≡ signed_of field → Reading line entry tag (set numbers count x) (count + 1) end
    unfolding resumed each_number leading onward
    line-more k x n =
        let o = sym n in
        let room : length entry - count ≡ suc (length entry - (count + 1)) = omega (arith, r.size) in
        let grown : take (count + 1) (set numbers count x) ≡ take count numbers ++ (x ∷ []) = rw (add-one count) (take-suc-set numbers count x k) in
        let sums : length (take count numbers) + suc (length (parts_after 9 line end)) ≡
        length (take count numbers ++ (x ∷ [])) + length (parts_after 9 line end) = rw length-append (omega arith) in
        record {
          size = length-set numbers count x ∙ r.size;
          few = omega (arith, r.size);
          stays = drop-set-lt (count + 1) numbers count x (omega arith) ∙ sym (drop-drop 1 count numbers) ∙ rw r.stays (drop-drop 1 count entry);
          is = r.is ∙ rw (next, o, prepend-one (take count numbers) x, grown, sums) refl;
          kept = r.kept ∙ rw (next, o, room, grown) (sym (append_assoc (take count numbers) (x ∷ []) _));
        }
