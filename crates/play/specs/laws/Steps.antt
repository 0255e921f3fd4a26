-- Laws of this subject: what a step prints and what the lines after it print, together, is what the lines from its cursor on print; and what every
-- cursor that is reached leaves to be played.
use Rattle.std.specs.Prelude.{ℕ, ◌+◌, ◌<◌, ◌≡◌, Bool, cond, ◌&&◌, eqb, ltb, drop}
use Rattle.std.proofs.Math.Path.{refl, sym}
use Rattle.std.proofs.Common.{ap, ◌∙◌, arith, ltb-true, ltb-false}
use Rattle.std.proofs.Math.Bool.{true, false, not}
use mathlib.Core.List.{List, [], ◌∷◌, ◌++◌, append_assoc, append-nil}
use Rattle.std.proofs.Common.{None, Option, Some}
use Rattle.std.proofs.Math.ListN.{length}
use Rattle.ledger.specs.Bench.{NamedCall}
use Rattle.record.specs.Kept.{Kept}
use Rattle.record.specs.Record.{fresh, record_after}
use Rattle.record.specs.declared.Record.{Record}
use Rattle.record.specs.laws.Named.{fresh_kept, named-kept}
use Rattle.call_text.specs.Calls.{call_of}
use Rattle.call_text.specs.inner.Parts.{front}
use Rattle.call_text.proofs.Splitting.{parts_after, parts-end, parts_more, split-front}
use Rattle.play.specs.ReachedRecord.{ReachedRecord}
use Rattle.play.specs.Steps.{Begins, Ends, GoesOn, Reached, Steps, Within, after_line, begun, gone, left_by}
use Rattle.play.specs.Steps.{lines_from, past_line, start_cursor, stepped, stepped_by, stopped_at}
use Rattle.play.specs.Text.{line_then, played_from, record_answers, record_plays, text_played, unknown_line}
use Rattle.play.specs.declared.cursor.Cursor.{Cursor}
use Rattle.play.specs.declared.step.Stepped.{Stepped}

-- a line that another part follows ends before the text does
module _ (text : List ℕ) (here : Cursor) (line part : List ℕ) (parts : List (List ℕ)) (q : lines_from text here ≡ line ∷ part ∷ parts) where
  both : front 10 (drop here.at text) ∷ parts_after 10 text (here.at + length (front 10 (drop here.at text))) ≡ line ∷ part ∷ parts
  unfolding lines_from
  both = sym (split-front 10 text here.at) ∙ q

  after_line-parts : parts_after 10 text (here.at + length line) ≡ part ∷ parts
  after_line-parts =
      let f : front 10 (drop here.at text) ≡ line = cc both in
      let p : parts_after 10 text (here.at + length (front 10 (drop here.at text))) ≡ part ∷ parts = cc both in
      rw f at p

  pub line-within : here.at + length line < length text
  line-within = by (ltb (here.at + length line) (length text)) refl
    where
      by : (t : Bool) → ltb (here.at + length line) (length text) ≡ t → here.at + length line < length text
      by true e = ltb-true (here.at + length line) (length text) e
      by false e =
          let n = parts-end 10 text (here.at + length line) (ltb-false (here.at + length line) (length text) e) in
          absurd (let z : ◌≡◌ {A = ℕ} 0 1 = cc (after_line-parts, n) in omega arith)

  -- the parts after a line start after its line feed
  pub lines-on : lines_from text (past_line here (length line)) ≡ part ∷ parts
  unfolding lines_from past_line
  lines-on = sym (parts_more 10 text (here.at + length line) line-within) ∙ after_line-parts

pub start-within : (text : List ℕ) → Within text start_cursor
unfolding start_cursor
start-within text = record { place = omega arith; number = omega arith }

-- on what lines are played, whatever it is
module _ {S : Type 0} (plays : S → List ℕ → Option (List ℕ × S)) where
  -- what the lines from a cursor on print
  abbrev pub rest : List ℕ → Bool → S → Cursor → List ℕ
  rest text left s here = played_from plays left s here.line (lines_from text here)

  -- the same, where there may be no more
  abbrev pub onward : List ℕ → Bool → S → Option Cursor → List ℕ
  onward text left s None = []
  onward text left s (Some here) = rest text left s here

  pub from_start : (text : List ℕ) (left : Bool) (s : S) → text_played plays left s text ≡ rest text left s start_cursor
  unfolding text_played start_cursor lines_from
  from_start text left s = refl

  pub reached-within : (start : S) (text : List ℕ) {s : S} {here : Cursor} {before : List ℕ} → Reached plays start text s here before →
      Within text here
  unfolding past_line
  reached-within start text begun = start-within text
  reached-within start text (gone {here = here} line part parts done h e c) =
      let w = reached-within start text h in
      let l = line-within text here line part parts e in
      record { place = omega arith; number = omega (arith, w.number) }

  module _ (text : List ℕ) (left : Bool) (s : S) (here : Cursor) where
    line-number : (size : ℕ) → (past_line here size).line ≡ here.line + 1
    unfolding past_line
    line-number size = refl

    -- a line that is a call prints its answer, and what the lines after it print on what it leaves follows
    from-line : (line part : List ℕ) (parts : List (List ℕ)) (done : List ℕ × S) → lines_from text here ≡ line ∷ part ∷ parts →
        plays s line ≡ Some done → rest text left s here ≡ done.0 ++ rest text left done.1 (past_line here (length line))
    unfolding played_from line_then
    from-line line part parts done q c = rw (lines-on text here line part parts q, q, c, line-number (length line))

    module _ (n : ℕ) where
      -- what a step prints, and what follows it, where the parts from its cursor on are these
      abbrev Goes : List (List ℕ) → Type 0
      Goes parts =
          let z = stepped n plays left s here parts in
          played_from plays left s here.line parts ≡ z.page ++ onward text left (after_line plays s parts) z.next

      alone : (u : List ℕ) → u ≡ (stopped_at n u).page ++ []
      unfolding stopped_at
      alone u = sym (append-nil _)

      -- the last part, by whether it is no line: t
      last : (t : Bool) → cond t [] (unknown_line here.line) ≡
          (let z = cond t (stopped_at n []) (stopped_at n (unknown_line here.line)) in z.page ++ onward text left s z.next)
      unfolding stopped_at
      last true = alone []
      last false = alone (unknown_line here.line)

      -- a line, by what its call prints and leaves: o
      called : (line part : List ℕ) (parts : List (List ℕ)) → lines_from text here ≡ line ∷ part ∷ parts → (o : Option (List ℕ × S))
          → line_then here.line o (λ next. played_from plays left next (here.line + 1) (part ∷ parts))
          ≡ (let z = stepped_by n here (length line) o in z.page ++ onward text left (left_by s o) z.next)
      unfolding line_then stepped_by stopped_at left_by
      called line part parts q None = alone (unknown_line here.line)
      called line part parts q (Some done) = rw (lines-on text here line part parts q, line-number (length line))

      goes : (parts : List (List ℕ)) → lines_from text here ≡ parts → Goes parts
      unfolding played_from stepped stopped_at after_line
      goes [] q = alone []
      goes (part ∷ []) q = last (eqb (length part) 0 && not left)
      goes (line ∷ part ∷ parts) q = called line part parts q (plays s line)

  -- what the lines before a cursor print, and then what those from it on print on what they left, is what the text prints
  pub reached-before : (start : S) (text : List ℕ) (left : Bool) {s : S} {here : Cursor} {before : List ℕ} →
      Reached plays start text s here before → text_played plays left start text ≡ before ++ rest text left s here
  reached-before start text left begun = from_start text left start
  reached-before start text left (gone {s = s} {here = here} {before = before} line part parts done h e c) =
      reached-before start text left h ∙ rw (append_assoc) (ap (λ xs. before ++ xs) (from-line text left s here line part parts done e c))

-- z is the step at a cursor, and next what it leaves
module _ {S : Type 0} {plays : S → List ℕ → Option (List ℕ × S)} {text : List ℕ} {left : Bool} {here : Cursor} {s : S} {n : ℕ} {z : Stepped n}
    {next : S} (t : Steps plays text left here s z next) where
  pub prints : rest plays text left s here ≡ z.page ++ onward plays text left next z.next
  prints = rw t.leaves (rw (← t.is) at (goes plays text left s here n (lines_from text here) refl))

  pub prints-more : (on : Cursor) → z.next ≡ Some on → rest plays text left s here ≡ z.page ++ rest plays text left next on
  prints-more on more = prints ∙ rw more

  pub prints-last : z.next ≡ None → rest plays text left s here ≡ z.page
  prints-last last = prints ∙ rw last (append-nil _)

  module _ {start : S} {before : List ℕ} (h : Reached plays start text s here before) where
    -- where another line follows, it is reached
    pub reaches : (on : Cursor) → z.next ≡ Some on → Reached plays start text next on (before ++ z.page)
    unfolding stopped_at stepped_by left_by stepped after_line
    reaches on more = by (lines_from text here) refl (rw (← t.is) refl) t.leaves
      where
        nothing : (u : List ℕ) → stopped_at n u ≡ z → ⊥
        nothing u e =
            let m : z.next ≡ None = sym (ap (λ (y : Stepped n). y.next) e) in
            let w : ◌≡◌ {A = ℕ} 0 1 = cc (m, more) in omega arith

        last : (t : Bool) → cond t (stopped_at n []) (stopped_at n (unknown_line here.line)) ≡ z → ⊥
        last true e = nothing [] e
        last false e = nothing (unknown_line here.line) e

        called : (line part : List ℕ) (parts : List (List ℕ)) → lines_from text here ≡ line ∷ part ∷ parts → (o : Option (List ℕ × S)) →
            plays s line ≡ o → stepped_by n here (length line) o ≡ z → next ≡ left_by s o → Reached plays start text next on (before ++ z.page)
        called line part parts q None c e l = absurd (nothing (unknown_line here.line) e)
        called line part parts q (Some done) c e l =
            let m : Some (past_line here (length line)) ≡ z.next = ap (λ (y : Stepped n). y.next) e in
            let o : on ≡ past_line here (length line) = cc (m, more) in
            let p : z.page ≡ done.0 = sym (ap (λ (y : Stepped n). y.page) e) in
            rw (o, l, p) (gone line part parts done h q c)

        by : (parts : List (List ℕ)) → lines_from text here ≡ parts → stepped n plays left s here parts ≡ z → next ≡ after_line plays s parts →
            Reached plays start text next on (before ++ z.page)
        by [] q e l = absurd (nothing [] e)
        by (part ∷ []) q e l = absurd (last (eqb (length part) 0 && not left) e)
        by (line ∷ part ∷ parts) q e l = called line part parts q (plays s line) refl e l

    -- where none follows, it is the last
    pub ends : z.next ≡ None → Ends plays start text left z
    ends last = record {
      on = s;
      here = here;
      before = before;
      reached = h;
      last = t.is;
      stops = last;
      is = reached-before plays start text left h ∙ rw (prints-last last);
    }

-- a record that is reached from a fresh one is kept
pub reached-kept : (text : List ℕ) {r : Record} {here : Cursor} {before : List ℕ} → Reached record_plays fresh text r here before → Kept r
unfolding record_plays record_answers
reached-kept text begun = fresh_kept
reached-kept text (gone {s = r} line part parts done h e c) = by (call_of line) c (reached-kept text h)
  where
    by : (o : Option NamedCall) → record_answers r o ≡ Some done → Kept r → Kept done.1
    by None q k = absurd (let z : ◌≡◌ {A = ℕ} 0 1 = cc in omega arith)
    by (Some call) q k =
        let l : done.1 ≡ record_after r call = cc in
        rw l (named-kept r call k)

-- A fresh record and a text's start are reached, and so is what a step leaves where they were.
pub record_begins : (r : Record) → r ≡ fresh → Begins ReachedRecord r
record_begins r e text = rw e (record { before = []; reached = begun })

pub record_goes : GoesOn record_plays ReachedRecord
record_goes text left here s n z next h t on more = record { before = h.before ++ z.page; reached = reaches t h.reached on more }
