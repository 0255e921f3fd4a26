-- A step of a text of calls: what the line at a cursor does to the receiver, and what it prints.
use Rattle.std.specs.Prelude.{ℕ, ◌+◌, ◌≤◌, ◌<◌, ◌≡◌, Bool, cond, not, ◌&&◌, List, [], ◌∷◌, ◌++◌, eqb, ltb, drop, length, take}
use Rattle.std.specs.Prelude.{Option, Some, None}
use Rattle.text.specs.Parts.{split}
use Rattle.play.specs.Text.{input_limit, text_played, unknown_line}
use Rattle.play.specs.declared.cursor.Cursor.{Cursor}
use Rattle.play.specs.declared.step.Stepped.{Stepped}

-- the text's start, line 1
unfoldable pub start_cursor : Cursor
start_cursor = record { at = 0; line = 1 }

-- a place of the text, and the number of the line that starts there
unfoldable pub cursor_at : ℕ → ℕ → Cursor
cursor_at at line = record { at = at; line = line }

-- after a line of so many bytes and its line feed
unfoldable pub past_line : Cursor → ℕ → Cursor
past_line here size = record { at = here.at + size + 1; line = here.line + 1 }

-- a cursor in the text; each line before it has its line feed
pub record Within (text : List ℕ) (here : Cursor) : Type 0 where
  pub place : here.at ≤ length text
  pub number : here.line ≤ here.at + 1

-- the lines from a cursor on
unfoldable pub lines_from : List ℕ → Cursor → List (List ℕ)
lines_from text here = split 10 (drop here.at text)

-- the text's end, or a line that is no call
unfoldable pub stopped_at : (n : ℕ) → List ℕ → Stepped n
stopped_at n text = record { next = None; page = text }

-- a line of so many bytes, by what its call prints and leaves
unfoldable pub stepped_by : {S : Type 0} (n : ℕ) → Cursor → ℕ → Option (List ℕ × S) → Stepped n
stepped_by n here size None = stopped_at n (unknown_line here.line)
stepped_by n here size (Some done) = record { next = Some (past_line here size); page = done.0 }

unfoldable pub stepped : {S : Type 0} (n : ℕ) → (S → List ℕ → Option (List ℕ × S)) → Bool → S → Cursor → List (List ℕ) → Stepped n
stepped n plays left s here [] = stopped_at n []
stepped n plays left s here (part ∷ []) = cond (eqb (length part) 0 && not left) (stopped_at n []) (stopped_at n (unknown_line here.line))
stepped n plays left s here (line ∷ part ∷ parts) = stepped_by n here (length line) (plays s line)

-- the receiver after a line's call, if it is one
unfoldable pub left_by : {S : Type 0} → S → Option (List ℕ × S) → S
left_by s None = s
left_by s (Some done) = done.1

-- the receiver after the first of these lines
unfoldable pub after_line : {S : Type 0} → (S → List ℕ → Option (List ℕ × S)) → S → List (List ℕ) → S
after_line plays s [] = s
after_line plays s (part ∷ []) = s
after_line plays s (line ∷ part ∷ parts) = left_by s (plays s line)

-- What the lines before a cursor have come to, and what they print: the receiver as it was at the text's start, and nothing; or what a line that is a
-- call leaves, the cursor after it, and what it prints after what stood.
pub data Reached {S : Type 0} (plays : S → List ℕ → Option (List ℕ × S)) (start : S) (text : List ℕ) : S → Cursor → List ℕ → Type 0 where
  begun : Reached plays start text start start_cursor []
  gone : {s : S} {here : Cursor} {before : List ℕ} (line part : List ℕ) (parts : List (List ℕ)) (done : List ℕ × S) →
      Reached plays start text s here before → lines_from text here ≡ line ∷ part ∷ parts → plays s line ≡ Some done →
      Reached plays start text done.1 (past_line here (length line)) (before ++ done.0)

-- the line at a cursor, played on the receiver s: what it prints, and the receiver after it
pub record Steps {S : Type 0} (plays : S → List ℕ → Option (List ℕ × S)) (text : List ℕ) (left : Bool) (here : Cursor) (s : S) {n : ℕ}
    (z : Stepped n) (next : S) : Type 0 where
  pub is : z ≡ stepped n plays left s here (lines_from text here)
  pub leaves : next ≡ after_line plays s (lines_from text here)
  pub moves : (on : Cursor) → z.next ≡ Some on → (here.at < on.at) × Within text on

-- The line at a cursor may be played on a receiver, `stands`: at the start of every text ..
abbrev pub Begins : {S : Type 0} → (List ℕ → S → Cursor → Type 0) → S → Type 0
Begins stands s = (text : List ℕ) → stands text s start_cursor

-- .. and at what a step leaves
abbrev pub GoesOn : {S : Type 0} → (S → List ℕ → Option (List ℕ × S)) → (List ℕ → S → Cursor → Type 0) → Type 0
GoesOn {S} plays stands = (text : List ℕ) (left : Bool) (here : Cursor) (s : S) (n : ℕ) (z : Stepped n) (next : S) → stands text s here →
    Steps plays text left here s z next → (on : Cursor) → z.next ≡ Some on → stands text next on

-- A text's last step: that of a receiver and a cursor that are reached, which says that there is no more. What it prints depends on whether input is
-- left. What the lines before it print, and then what it prints, is what the text prints.
pub record Ends {S : Type 0} (plays : S → List ℕ → Option (List ℕ × S)) (start : S) (text : List ℕ) (left : Bool) {n : ℕ} (z : Stepped n)
    : Type 0 where
  pub on : S
  pub here : Cursor
  pub before : List ℕ
  pub reached : Reached plays start text on here before
  pub last : z ≡ stepped n plays left on here (lines_from text here)
  pub stops : z.next ≡ None
  pub is : text_played plays left start text ≡ before ++ z.page

-- the last step of the text that is read of an input
abbrev pub EndsInput : {S : Type 0} → (S → List ℕ → Option (List ℕ × S)) → S → List ℕ → {n : ℕ} → Stepped n → Type 0
EndsInput plays start input z = Ends plays start (take input_limit input) (ltb input_limit (length input)) z
