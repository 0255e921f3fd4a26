-- The passes over a text of calls, a step at a time: whether the rest fits, and what is written.
use Rattle.std.proofs.Common.{ℕ, ◌+◌, ◌-◌, ◌≤◌, ◌<◌, ◌≡◌, refl, sym, ◌∙◌, Bool, true, false, List, [], ◌++◌, Option, Some, None, Result}
use Rattle.std.proofs.Common.{arith, leb, length, length-append}
use borrow.Author.Tests.{le-leb, lt-leb, leb-true, leb-false}
use Rattle.refusal.specs.declared.Refusal.{Refusal}
use Rattle.refusal.specs.Refusal.{judged}
use Rattle.text.specs.Put.{Put, fitted, part, with_part}
use Rattle.text.specs.Written.{Writes, lent_after, written_of}
use Rattle.text.specs.laws.Put.{part-size, put-nothing, put-part}
use Rattle.text.specs.laws.Written.{room-tells, short-last}
use Rattle.play.specs.Buffer.{PlaysAll, output_of, played_into}
use Rattle.play.specs.Steps.{Reached, Steps, begun, start_cursor}
use Rattle.play.specs.Text.{played, text_played}
use Rattle.play.specs.declared.cursor.Cursor.{Cursor}
use Rattle.play.specs.declared.step.Stepped.{Stepped}
use Rattle.play.specs.laws.Steps.{from_start, prints, prints-last, prints-more, reached-before, reaches, rest}

-- a test of a sum, by its first part
less : (a b c : ℕ) → a ≤ c → leb (a + b) c ≡ leb b (c - a)
less a b c h = by (leb b (c - a)) refl
  where
    by : (t : Bool) → leb b (c - a) ≡ t → leb (a + b) c ≡ t
    by true e = let l = leb-true b (c - a) e in le-leb (a + b) c (omega arith)
    by false e = let l = leb-false b (c - a) e in lt-leb (a + b) c (omega arith)

module _ {S : Type 0} (plays : S → List ℕ → Option (List ℕ × S)) where
  pub starts : (text : List ℕ) (s : S) {here : Cursor} → here ≡ start_cursor → text_played plays false s text ≡ rest plays text false s here
  starts text s h = rw h (from_start plays text false s)

  -- what the lines before the cursor print is written, and the line there is to be played on what they left
  pub record Wrote (start : S) (text : List ℕ) (s : S) (here : Cursor) (entry buf : List ℕ) (end : ℕ) : Type 0 where
    pub before : List ℕ
    pub reached : Reached plays start text s here before
    pub puts : Put before 0 entry buf end

  pub wrote_nothing : (start : S) (text : List ℕ) {here : Cursor} (entry : List ℕ) → here ≡ start_cursor → Wrote start text start here entry entry 0
  wrote_nothing start text entry h = rw h record { before = []; reached = begun; puts = put-nothing 0 _ (omega arith) }

module _ {S : Type 0} {plays : S → List ℕ → Option (List ℕ × S)} {text : List ℕ} {here : Cursor} {s : S} {n : ℕ} {z : Stepped n} {after : S}
    (t : Steps plays text false here s z after) where
  at_least : length z.page ≤ length (rest plays text false s here)
  at_least = rw (prints t, length-append) (omega arith)

  module _ (all most left : ℕ) (q : leb all most ≡ leb (length (rest plays text false s here)) left) where
    pub fits_not : left < length z.page → false ≡ leb all most
    fits_not h = sym (q ∙ lt-leb _ left (omega (arith, at_least)))

    module _ (h : length z.page ≤ left) where
      pub fits_all : z.next ≡ None → true ≡ leb all most
      fits_all last = sym (q ∙ rw (prints-last t last) (le-leb _ left h))

      pub fits_on : (on : Cursor) → z.next ≡ Some on → leb all most ≡ leb (length (rest plays text false after on)) (left - length z.page)
      fits_on on more = q ∙ rw (prints-more t on more, length-append) (less (length z.page) _ left h)

  module _ {start : S} {entry buf : List ℕ} {end : ℕ} (b : Wrote plays start text s here entry buf end) where
    whole : text_played plays false start text ≡ b.before ++ rest plays text false s here
    whole = reached-before plays start text false b.reached

    pub room : length (text_played plays false start text) ≤ length entry → length z.page ≤ length (part (length buf) end buf)
    room h =
        let all : length (text_played plays false start text) ≡ length b.before + length (rest plays text false s here) = rw (whole, length-append) in
        omega (arith, b.puts.answer, at_least, part-size b.puts)

    -- the buffer and the place after the line is written
    module _ {out : List ℕ} {k : ℕ} (p : Put z.page 0 (part (length buf) end buf) out k) where
      pub written_last : z.next ≡ None → Put (text_played plays false start text) 0 entry (with_part (length buf) end buf out) (end + k)
      written_last last = rw (whole, prints-last t last) (put-part b.puts p)

      pub written-more : (on : Cursor) → z.next ≡ Some on → Wrote plays start text after on entry (with_part (length buf) end buf out) (end + k)
      written-more on more = record { before = b.before ++ z.page; reached = reaches t b.reached on more; puts = put-part b.puts p }

-- a fresh record's, in a lent buffer
pub plays_all : (text entry exit : List ℕ) (r : Result ℕ Refusal) → Writes 0 (played false text) entry exit r → PlaysAll text entry exit r
unfolding written_of judged lent_after output_of played_into fitted
plays_all text entry exit r w = by (leb (length (played false text)) (length entry)) refl
  where
    by : (t : Bool) → leb (length (played false text)) (length entry) ≡ t → PlaysAll text entry exit r
    by true e =
        let told = room-tells 0 (played false text) entry w refl (leb-true _ _ e) in
        record { answer = told.0 ∙ rw e refl; buffer = told.1 ∙ rw e refl }
    by false e =
        let short = short-last 0 (length (played false text)) (length entry) refl (leb-false _ _ e) in
        record { answer = w.answer ∙ rw (short, e) refl; buffer = w.buffer ∙ rw (short, e) refl }
