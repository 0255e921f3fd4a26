-- The line at a place of a text: `line_at` reads there what `line_of` says of the line that `split` parts off.
use Prim.Native.Nat.{ℕ, zero, suc, ◌+◌}
use mathlib.Core.Path.{◌≡◌, refl, sym, ap, ◌∙◌}
use mathlib.Core.Bool.{Bool, true, false, cond, ◌&&◌, and-false, false≢true}
use mathlib.Core.List.{List, [], ◌∷◌, tail}
use mathlib.Core.Option.{Option, none, some}
use native.Mathlib.Numerals.{add-one}
use native.Mathlib.Omega.{arith}
use borrow.Author.Tests.{ne_eqb, eqb-true}
use lib.Dec.{eqb}
use lib.ListN.{length, drop, set, replicate}
use lib.Seq.{sets, drop-drop}
use Rattle.std.proofs.lemmas.Bool.{and_parts}
use Rattle.integer.specs.laws.Tests.{cond_same}
use Rattle.text.specs.Parts.{onto, split, before}
use Rattle.job.specs.inner.FieldScan.{field_at, tagged_from, tagged_at}
use Rattle.job.specs.Text.{number_in, numbers_of, is_tag, record_of, line_of}
use Rattle.std.specs.Prelude.{Option as Found, None, Some}
use Rattle.job.specs.inner.LineScan.{last_number, inner_number, numbers_at, line_at}
use Rattle.job.specs.declared.sample.Line.{Line}
use Rattle.job.proofs.Numeral.{number_is}
use Rattle.job.proofs.Fields.{End, tab, feed, over, Cut, at-tab, at-feed, at-over, past, cut_of, ended, field_cut, drop-cut, split-tab}
use Rattle.job.proofs.Fields.{split-feed, split-over}

-- The first of the lines, read as one with this tag: it has to have a line feed, so another part follows it.
unfoldable pub line_in : ℕ → ℕ → List (List ℕ) → Option (List ℕ)
line_in tag c [] = none
line_in tag c (l ∷ []) = none
line_in tag c (l ∷ part ∷ parts) = line_of tag c l

-- The same of the numbers after the tag.
unfoldable numbers_in : ℕ → List (List ℕ) → Option (List ℕ)
numbers_in c [] = none
numbers_in c (l ∷ []) = none
numbers_in c (l ∷ part ∷ parts) = numbers_of c (split 9 l)

-- What was read, and what the definition says: a malformed line; or c numbers, stored from place i of a row on, and the lines that follow.
pub data Reads (text row : List ℕ) (i c : ℕ) (rest : List (List ℕ)) : Found Line → Option (List ℕ) → Type 0 where
  bad : Reads text row i c rest None none
  good : (xs : List ℕ) (next : ℕ) → length xs ≡ c → split 10 (drop next text) ≡ rest →
      Reads text row i c rest (Some (record { numbers = sets row i xs; next = next })) (some xs)

pub record Cons (ls : List (List ℕ)) : Type 0 where
  pub first : List ℕ
  pub others : List (List ℕ)
  pub same : ls ≡ first ∷ others

pub split-cons : (s : ℕ) (bs : List ℕ) → Cons (split s bs)
unfolding split onto
split-cons s [] = record { first = []; others = []; same = refl }
split-cons s (b ∷ bs) = go (eqb b s) (split-cons s bs)
  where
    go : (t : Bool) → Cons (split s bs) → Cons (cond t ([] ∷ split s bs) (onto b (split s bs)))
    go true p = record { first = []; others = split s bs; same = refl }
    go false p = record { first = b ∷ p.first; others = p.others; same = ap (onto b) p.same }

before-none : (o : Option ℕ) → before o none ≡ none
unfolding before
before-none none = refl
before-none (some x) = refl

no-numbers : (l : List ℕ) → numbers_of 0 (split 9 l) ≡ none
unfolding numbers_of
no-numbers l = rw (split-cons 9 l).same

-- A line whose first field is f, and whose other fields are those of l.
numbers-tab : (c : ℕ) (line f l : List ℕ) (ls : List (List ℕ)) → split 9 line ≡ f ∷ split 9 l →
    numbers_in (suc c) (line ∷ ls) ≡ before (number_in f) (numbers_in c (l ∷ ls))
unfolding numbers_in numbers_of
numbers-tab c line f l [] q = sym (before-none (number_in f))
numbers-tab c line f l (part ∷ parts) q = rw q

numbers-feed : (c : ℕ) (f : List ℕ) (ls : List (List ℕ)) → split 9 f ≡ f ∷ [] → numbers_in (suc (suc c)) (f ∷ ls) ≡ none
unfolding numbers_in numbers_of
numbers-feed c f [] q = refl
numbers-feed c f (part ∷ parts) q = rw q (before-none (number_in f))

numbers-last : (f : List ℕ) (ls : List (List ℕ)) → Cons ls → split 9 f ≡ f ∷ [] → numbers_in 1 (f ∷ ls) ≡ before (number_in f) (some [])
unfolding numbers_in numbers_of
numbers-last f ls p q = rw p.same (rw q)

numbers-none : (l : List ℕ) (ls : List (List ℕ)) → numbers_in 0 (l ∷ ls) ≡ none
unfolding numbers_in
numbers-none l [] = refl
numbers-none l (part ∷ parts) = no-numbers l

numbers-over : (c : ℕ) (f : List ℕ) → numbers_in c (f ∷ []) ≡ none
unfolding numbers_in
numbers-over c f = refl

inner-over : (o : Option ℕ) (next : ℕ) (go : ℕ → ℕ → Found Line) → inner_number (ended over o next) go ≡ None
unfolding inner_number ended
inner-over o next go = refl

last-over : (row : List ℕ) (i : ℕ) (o : Option ℕ) (next : ℕ) → last_number row i (ended over o next) ≡ None
unfolding last_number ended
last-over row i o next = refl

inner-feed : (o : Option ℕ) (next : ℕ) (go : ℕ → ℕ → Found Line) → inner_number (ended feed o next) go ≡ None
unfolding inner_number ended
inner-feed none next go = refl
inner-feed (some v) next go = refl

last-tab : (row : List ℕ) (i : ℕ) (o : Option ℕ) (next : ℕ) → last_number row i (ended tab o next) ≡ None
unfolding last_number ended
last-tab row i none next = refl
last-tab row i (some v) next = refl

module _ (text : List ℕ) where
  last-feed : (row : List ℕ) (i : ℕ) (rest : List (List ℕ)) (o : Option ℕ) (next : ℕ) → split 10 (drop next text) ≡ rest →
      Reads text row i 1 rest (last_number row i (ended feed o next)) (before o (some []))
  unfolding last_number ended before
  last-feed row i rest none next q = bad
  last-feed row i rest (some v) next q = good (v ∷ []) next refl q

  one_more : {L : Found Line} {o : Option (List ℕ)} (row : List ℕ) (i c : ℕ) (rest : List (List ℕ)) (v : ℕ) →
      Reads text (set row i v) (i + 1) c rest L o → Reads text row i (suc c) rest L (before (some v) o)
  unfolding before
  one_more row i c rest v bad = bad
  one_more row i c rest v (good xs next h q) = rw (add-one i) (good (v ∷ xs) next (ap suc h) q)

  inner-tab : (row : List ℕ) (i c : ℕ) (rest : List (List ℕ)) (o : Option ℕ) (next : ℕ) (go : ℕ → ℕ → Found Line) (os : Option (List ℕ)) →
      ((v : ℕ) → Reads text (set row i v) (i + 1) c rest (go v next) os) →
      Reads text row i (suc c) rest (inner_number (ended tab o next) go) (before o os)
  unfolding inner_number ended before
  inner-tab row i c rest none next go os ih = bad
  inner-tab row i c rest (some v) next go os ih = one_more row i c rest v (ih v)

  module _ (at : ℕ) {f rest : List ℕ} {e : End} (p : Cut (drop at text) f e rest) where
    field_is : field_at text at ≡ ended e (number_in f) (at + suc (length f))
    unfolding field_at
    field_is = field_cut p at ∙ ap (λ (o : Option ℕ). ended e o (at + suc (length f))) (number_is f)

    rest-is : drop (at + suc (length f)) text ≡ rest
    rest-is = sym (drop-drop (suc (length f)) at text) ∙ drop-cut p

  last-read : (row : List ℕ) (at i : ℕ) (f rest : List ℕ) (e : End) → Cut (drop at text) f e rest →
      Reads text row i 1 (tail (split 10 (drop at text))) (last_number row i (field_at text at)) (numbers_in 1 (split 10 (drop at text)))
  last-read row at i f rest tab p =
      let k = split-cons 10 rest in
      let t = split-tab p k.first k.others k.same in
      rw (
        field_is at p,
        t.lines,
        numbers-tab 0 t.line f k.first k.others t.fields,
        numbers-none k.first k.others,
        before-none (number_in f),
        last-tab row i (number_in f) (at + suc (length f)),
      ) bad
  last-read row at i f rest feed p =
      let s = split-feed p in
      rw (field_is at p, s.0, numbers-last f (split 10 rest) (split-cons 10 rest) s.1)
      (last-feed row i (split 10 rest) (number_in f) (at + suc (length f)) (ap (split 10) (rest-is at p)))
  last-read row at i f rest over p = rw (field_is at p, split-over p, last-over row i (number_in f) (at + suc (length f)), numbers-over 1 f) bad

  -- The line at a place, as the numbers from number i on.
  abbrev Told : ℕ → List ℕ → ℕ → ℕ → Type 0
  Told m row at i = Reads text row i (suc m) (tail (split 10 (drop at text))) (numbers_at text row at i m)
      (numbers_in (suc m) (split 10 (drop at text)))

  inner-read : (m : ℕ) (row : List ℕ) (at i : ℕ) → ((v next : ℕ) → Told m (set row i v) next (i + 1)) → (f rest : List ℕ) (e : End) →
      Cut (drop at text) f e rest → Reads text row i (suc (suc m)) (tail (split 10 (drop at text)))
      (inner_number (field_at text at) (λ v next. numbers_at text (set row i v) next (i + 1) m)) (numbers_in (suc (suc m)) (split 10 (drop at text)))
  inner-read m row at i ih f rest tab p =
      let k = split-cons 10 rest in
      let t = split-tab p k.first k.others k.same in
      let next = at + suc (length f) in
      let e : split 10 (drop next text) ≡ k.first ∷ k.others = ap (split 10) (rest-is at p) ∙ k.same in
      rw (field_is at p, t.lines, numbers-tab (suc m) t.line f k.first k.others t.fields)
      (inner-tab row i (suc m) k.others (number_in f) next (λ v next. numbers_at text (set row i v) next (i + 1) m)
      (numbers_in (suc m) (k.first ∷ k.others)) (λ v. rw e at (ih v next)))
  inner-read m row at i ih f rest feed p =
      let s = split-feed p in
      rw (
        field_is at p,
        s.0,
        numbers-feed m f (split 10 rest) s.1,
        inner-feed (number_in f) (at + suc (length f))
            (λ v next. numbers_at text (set row i v) next (i + 1) m),
      ) bad
  inner-read m row at i ih f rest over p =
      rw (
        field_is at p,
        split-over p,
        inner-over (number_in f) (at + suc (length f)) (λ v next. numbers_at text (set row i v) next (i + 1) m),
        numbers-over (suc (suc m)) f,
      ) bad

  numbers-read : (m : ℕ) (row : List ℕ) (at i : ℕ) → Told m row at i
  unfolding numbers_at
  numbers-read zero row at i = let p = cut_of (drop at text) in last-read row at i p.field p.rest p.end p.cut
  numbers-read (suc m) row at i =
      let p = cut_of (drop at text) in
      inner-read m row at i (λ v next. numbers-read m (set row i v) next (i + 1)) p.field p.rest p.end p.cut

-- A tag is a field of its own only before a tab.
abbrev on_tab : End → Bool → Bool
on_tab tab t = t
on_tab feed t = false
on_tab over t = false

on_tab-false : (e : End) → false ≡ on_tab e false
on_tab-false tab = refl
on_tab-false feed = refl
on_tab-false over = refl

pick_same : (t : Bool) → cond t true false ≡ (t && true)
pick_same true = refl
pick_same false = refl

untagged : (b tag : ℕ) (bs : List ℕ) → eqb b tag ≡ false → tagged_from tag (b ∷ bs) ≡ false
unfolding tagged_from
untagged b tag [] h = refl
untagged b tag (d ∷ bs) h = simp h

tagged-past : (b tag : ℕ) {bs f rest : List ℕ} {e : End} → Cut bs f e rest → tagged_from tag (b ∷ bs) ≡ on_tab e (is_tag tag (b ∷ f))
unfolding tagged_from is_tag
tagged-past b tag at-tab = pick_same (eqb b tag)
tagged-past b tag at-feed = cond_same (eqb b tag) false
tagged-past b tag at-over = refl
tagged-past b tag (past {b = d} {f = f} {e = e} n m p) =
    simp (ne_eqb d 9 n, cond_same (eqb b tag) false, ne_eqb (suc (length f)) 0 (λ q. omega arith), and-false (eqb b tag)) (on_tab-false e)

tagged-cut : (tag : ℕ) → eqb 9 tag ≡ false → eqb 10 tag ≡ false → {bs f rest : List ℕ} {e : End} → Cut bs f e rest →
    tagged_from tag bs ≡ on_tab e (is_tag tag f)
unfolding is_tag
tagged-cut tag h g (at-tab {bs = bs}) = untagged 9 tag bs h
tagged-cut tag h g (at-feed {bs = bs}) = untagged 10 tag bs g
tagged-cut tag h g at-over = unfold tagged_from in refl
tagged-cut tag h g (past {b = b} n m p) = tagged-past b tag p

tag-alone : (tag : ℕ) (f : List ℕ) → is_tag tag f ≡ true → length f ≡ 1
unfolding is_tag
tag-alone tag [] h = absurd (false≢true h)
tag-alone tag (b ∷ bs) h = ap suc (eqb-true (length bs) 0 (and_parts (eqb b tag) (eqb (length bs) 0) h).1)

line-tab : (tag c : ℕ) (line f l : List ℕ) (ls : List (List ℕ)) → split 9 line ≡ f ∷ split 9 l →
    line_in tag c (line ∷ ls) ≡ cond (is_tag tag f) (numbers_in c (l ∷ ls)) none
unfolding line_in line_of record_of numbers_in
line-tab tag c line f l [] q = sym (cond_same (is_tag tag f) none)
line-tab tag c line f l (part ∷ parts) q = rw q

line-feed : (tag c : ℕ) (f : List ℕ) (ls : List (List ℕ)) → split 9 f ≡ f ∷ [] → line_in tag (suc c) (f ∷ ls) ≡ none
unfolding line_in line_of record_of numbers_of
line-feed tag c f [] q = refl
line-feed tag c f (part ∷ parts) q = rw q (cond_same (is_tag tag f) none)

line-over : (tag c : ℕ) (f : List ℕ) → line_in tag c (f ∷ []) ≡ none
unfolding line_in
line-over tag c f = refl

by-tag : (text row : List ℕ) (i c : ℕ) (rest : List (List ℕ)) (t : Bool) (L : Found Line) (o : Option (List ℕ)) →
    (t ≡ true → Reads text row i c rest L o) → Reads text row i c rest (cond t L None) (cond t o none)
by-tag text row i c rest true L o f = f refl
by-tag text row i c rest false L o f = bad

module _ (text : List ℕ) (tag : ℕ) (h : eqb 9 tag ≡ false) (g : eqb 10 tag ≡ false) (m at : ℕ) where
  line-cut : (f rest : List ℕ) (e : End) → Cut (drop at text) f e rest →
      Reads text (replicate 9 0) 0 (suc m) (tail (split 10 (drop at text))) (line_at text at tag m) (line_in tag (suc m) (split 10 (drop at text)))
  unfolding line_at tagged_at
  line-cut f rest tab p =
      let k = split-cons 10 rest in
      let t = split-tab p k.first k.others k.same in
      rw (tagged-cut tag h g p, t.lines, line-tab tag (suc m) t.line f k.first k.others t.fields)
      (by-tag text (replicate 9 0) 0 (suc m) k.others (is_tag tag f) _ _
      (λ a.
      let n = tag-alone tag f a in
      let two : at + 2 ≡ at + suc (length f) = omega arith in
      let e : split 10 (drop (at + 2) text) ≡ k.first ∷ k.others = ap (λ (x : ℕ). split 10 (drop x text)) two ∙ ap (split 10) (rest-is text at p)
      ∙ k.same in
      rw e at (numbers-read text m (replicate 9 0) (at + 2) 0)))
  line-cut f rest feed p =
      let s = split-feed p in
      rw (tagged-cut tag h g p, s.0, line-feed tag m f (split 10 rest) s.1) bad
  line-cut f rest over p = rw (tagged-cut tag h g p, split-over p, line-over tag (suc m) f) bad

  pub line_read : Reads text (replicate 9 0) 0 (suc m) (tail (split 10 (drop at text))) (line_at text at tag m)
      (line_in tag (suc m) (split 10 (drop at text)))
  line_read = let p = cut_of (drop at text) in line-cut p.field p.rest p.end p.cut
