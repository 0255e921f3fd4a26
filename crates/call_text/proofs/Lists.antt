-- A line's call by its fields as they were read, and where the call's list stands in the array.
use Prim.Native.Nat.{ℕ, ◌+◌, ◌-◌, ◌≤◌}
use mathlib.Core.Path.{◌≡◌, refl, sym, ap, ◌∙◌}
use mathlib.Core.Bool.{Bool, true, false, cond}
use mathlib.Core.List.{List, [], ◌∷◌, ◌++◌, append_assoc, map, map-append}
use Rattle.std.proofs.Common.{IfSome, None, Option, Some}
use native.Mathlib.Omega.{arith}
use lib.Dec.{eqb, leb}
use lib.IntN.{ℤ, pos, negsuc}
use lib.ListN.{length, take, drop, length-append, length-map, take-append-drop}
use lib.Seq.{drop-append_seam, drop-drop, take-append_seam}
use Rattle.text.specs.Parts.{split}
use Rattle.ledger.specs.Bench.{NamedCall, by}
use Rattle.ledger.specs.Call.{Call, load, load_samples, loose_pair, axis}
use Rattle.ledger.specs.declared.Order.{Order}
use Rattle.ledger.specs.declared.Order.TheVariants.{Cyclic, Tournament}
use Rattle.call_text.specs.Calls.{argument, call_by, call_of_fields, call_within, load_by, named, named_by, one_by, reading, samples_by}
use Rattle.call_text.specs.Calls.{sweep_by, turn_by}
use Rattle.call_text.specs.Requests.{Asks, Placed, asked_by, asked_for, call_asked, left_in, part, request_call}
use Rattle.call_text.specs.inner.Read.{FieldsRead, fields_by}
use Rattle.call_text.specs.laws.Leading.{Tagged, tagged, untagged}
use Rattle.call_text.specs.declared.line.Fields.{Fields}
use Rattle.call_text.specs.declared.request.Request.{Request}

-- a request with the numbers of its line is the line's call, and its places are among them
abbrev Stands : List ℤ → List ℤ → Option NamedCall → Type 0
Stands ys rest o =
    (call_asked (asked_for o) (ys ++ rest) (map reading (ys ++ rest)) ≡ o) × IfSome (asked_for o) (Placed (length (ys ++ rest)))

-- two lists that follow three numbers
module _ (us vs ws : List ℕ) (a b c : ℕ) where
  first_part : part 3 (3 + length us) (a ∷ b ∷ c ∷ (us ++ vs) ++ ws) ≡ us
  first_part =
      let z : 3 + length us - 3 ≡ length us = omega arith in
      rw (z, append_assoc) (take-append_seam us (vs ++ ws))

  second-part : part (3 + length us) (3 + length us + length vs) (a ∷ b ∷ c ∷ (us ++ vs) ++ ws) ≡ vs
  second-part =
      let z : 3 + length us + length vs - (3 + length us) ≡ length vs = omega arith in
      rw (z, append_assoc, ← drop-drop (length us) 3, drop-append_seam) (take-append_seam vs ws)

-- after the bench x
module _ (rest : List ℤ) (x : ℤ) where
  abbrev bench : ℕ
  bench = argument x

  none-stands : (ys : List ℤ) → Stands ys rest None
  unfolding asked_for call_asked
  none-stands ys = (refl, tt)

  load-stands : (ys : List ℤ) → Stands (x ∷ ys) rest (named bench (load_by ys))
  unfolding named asked_for asked_by call_asked request_call load_by
  load-stands [] = none-stands (x ∷ [])
  load-stands (n ∷ ys) =
      let z : 2 + length ys - 2 ≡ length ys = omega arith in (
        rw z (ap (λ (xs : List ℤ). Some (by bench (load (argument n) xs))) (take-append_seam ys rest)),
        (omega arith, rw length-append (omega arith)),
      )

  -- k samples, where as many dilutions and the counts follow
  module _ (n : ℤ) (k : ℕ) (ys : List ℤ) where
    abbrev us : List ℕ
    us = map reading (take k ys)

    abbrev vs : List ℕ
    vs = map reading (drop k ys)

    joined : map reading (x ∷ n ∷ pos k ∷ ys ++ rest) ≡ reading x ∷ reading n ∷ reading (pos k) ∷ (us ++ vs) ++ map reading rest
    joined =
        let a : us ++ vs ≡ map reading ys = sym (map-append reading (take k ys) (drop k ys)) ∙ rw (take-append-drop k ys) in
        rw (map-append, a)

    sizes : length us + length vs ≡ length ys
    sizes = rw (length-map (take k ys) reading, length-map (drop k ys) reading, ← length-append (take k ys) (drop k ys), take-append-drop k ys)

    some-stands : Stands (x ∷ n ∷ pos k ∷ ys) rest (named bench (Some (load_samples (argument n) us vs)))
    unfolding named asked_for asked_by call_asked request_call
    some-stands = (
      ap (λ (xs : List ℕ). call_asked (asked_for (Some (by bench (load_samples (argument n) us vs)))) (x ∷ n ∷ pos k ∷ ys ++ rest) xs) joined
          ∙ (λ i. Some (by bench (load_samples (argument n) (first_part us vs (map reading rest) (reading x) (reading n) (reading (pos k)) i)
          (second-part us vs (map reading rest) (reading x) (reading n) (reading (pos k)) i)))),
      (omega arith, omega arith, rw length-append (omega (arith, sizes))),
    )

  samples-stands : (ys : List ℤ) → Stands (x ∷ ys) rest (named bench (samples_by ys))
  unfolding named samples_by
  samples-stands [] = none-stands (x ∷ [])
  samples-stands (n ∷ []) = none-stands (x ∷ n ∷ [])
  samples-stands (n ∷ negsuc k ∷ ys) = none-stands (x ∷ n ∷ negsuc k ∷ ys)
  samples-stands (n ∷ pos k ∷ ys) = by_size (leb k (length ys))
    where
      by_size : (b : Bool) →
          Stands (x ∷ n ∷ pos k ∷ ys) rest (named bench (cond b (Some (load_samples (argument n) (us n k ys) (vs n k ys))) None))
      by_size true = some-stands n k ys
      by_size false = none-stands (x ∷ n ∷ pos k ∷ ys)

  turn-stands : (ys : List ℤ) → Stands (x ∷ ys) rest (named bench (turn_by ys))
  unfolding named asked_for asked_by call_asked request_call turn_by
  turn-stands [] = none-stands (x ∷ [])
  turn-stands (p ∷ []) = none-stands (x ∷ p ∷ [])
  turn-stands (p ∷ q ∷ []) = (refl, tt)
  turn-stands (p ∷ q ∷ z ∷ ys) = none-stands (x ∷ p ∷ q ∷ z ∷ ys)

  sweep-stands : (order : Order) (ys : List ℤ) → Stands (x ∷ ys) rest (named bench (sweep_by order ys))
  unfolding named asked_for asked_by call_asked request_call sweep_by
  sweep-stands Cyclic [] = (refl, tt)
  sweep-stands Tournament [] = (refl, tt)
  sweep-stands order (y ∷ ys) = none-stands (x ∷ y ∷ ys)

  one-stands : (call : ℕ → Call) → ((ys : List ℤ) (i : ℕ) → Stands ys rest (Some (by bench (call i)))) →
      (ys : List ℤ) → Stands (x ∷ ys) rest (named bench (one_by call ys))
  unfolding named one_by
  one-stands call h [] = none-stands (x ∷ [])
  one-stands call h (y ∷ []) = h (x ∷ y ∷ []) (argument y)
  one-stands call h (y ∷ z ∷ ys) = none-stands (x ∷ y ∷ z ∷ ys)

  pair-stands : (ys : List ℤ) (t : ℕ) → Stands ys rest (Some (by bench (loose_pair t)))
  unfolding asked_for asked_by call_asked request_call
  pair-stands ys t = (refl, tt)

  axis-stands : (ys : List ℤ) (i : ℕ) → Stands ys rest (Some (by bench (axis i)))
  unfolding asked_for asked_by call_asked request_call
  axis-stands ys i = (refl, tt)

  either : (ys : List ℤ) (b : Bool) (o p : Option Call) → Stands ys rest (named bench o) → Stands ys rest (named bench p) →
      Stands ys rest (named bench (cond b o p))
  either ys true o p h k = h
  either ys false o p h k = k

  no-tag : (ys : List ℤ) → Stands ys rest (named bench None)
  unfolding named
  no-tag ys = none-stands ys

  by-tag : (tag : ℕ) (ys : List ℤ) → Stands (x ∷ ys) rest (named bench (call_by tag ys))
  unfolding call_by
  by-tag tag ys =
      let all = x ∷ ys in
      either all (eqb tag 76) _ _ (load-stands ys) (either all (eqb tag 77) _ _ (samples-stands ys)
      (either all (eqb tag 84) _ _ (turn-stands ys) (either all (eqb tag 87) _ _ (sweep-stands Cyclic ys)
      (either all (eqb tag 81) _ _ (one-stands loose_pair pair-stands ys)
      (either all (eqb tag 65) _ _ (one-stands axis axis-stands ys)
      (either all (eqb tag 79) _ _ (sweep-stands Tournament ys) (no-tag all)))))))

pub stands : (rest : List ℤ) (tag : ℕ) (ys : List ℤ) → Stands ys rest (named_by tag ys)
unfolding named_by
stands rest tag [] = none-stands rest (pos 0) []
stands rest tag (x ∷ ys) = by-tag rest x tag ys

-- the reader's answer, by what was read of the fields
module _ (line : List ℕ) (entry exit : List ℤ) (z : Option Fields) (r : FieldsRead line entry exit z) where
  pub asks_none : z ≡ None → Asks line entry exit None
  unfolding call_within call_of_fields asked_for call_asked fields_by
  asks_none e =
      let n = untagged named_by (length entry) (split 9 line) (sym r.is ∙ e) in
      record { is = rw n; leaves = r.leaves; calls = rw n; placed = tt }

-- a line with a tag and numbers
module _ (line : List ℕ) (entry exit : List ℤ) (tag count : ℕ) (k : Tagged named_by (length entry) (split 9 line) tag count)
    (l : exit ≡ left_in entry line) where
  parted : exit ≡ k.numbers ++ drop count entry
  unfolding left_in
  parted = l ∙ rw (k.lead, k.size)

  asks-tagged : (a : Option Request) → a ≡ asked_for (named_by tag (take count exit)) → Asks line entry exit a
  unfolding call_within call_of_fields
  asks-tagged a q =
      let t : take count exit ≡ k.numbers = rw (parted, ← k.size) (take-append_seam k.numbers _) in
      let w : a ≡ asked_for (call_of_fields (length entry) (split 9 line)) = q ∙ rw (t, k.call) in
      let s = stands (drop count entry) tag k.numbers in
      record {
        is = w;
        leaves = l;
        calls = rw (w, k.call, parted) s.0;
        placed = rw (w, k.call, parted) s.1;
      }

module _ (line : List ℕ) (entry exit : List ℤ) (z : Option Fields) (r : FieldsRead line entry exit z) (f : Fields) (e : z ≡ Some f) where
  known : Tagged named_by (length entry) (split 9 line) f.tag f.count
  known = tagged named_by (length entry) (split 9 line) f.tag f.count (sym r.is ∙ e)

  pub in_array : f.count ≤ length exit
  in_array = rw (parted line entry exit f.tag f.count known r.leaves, length-append) (omega (arith, known.size))

  pub asks-some : (a : Option Request) → a ≡ asked_for (named_by f.tag (take f.count exit)) → Asks line entry exit a
  asks-some = asks-tagged line entry exit f.tag f.count known r.leaves
