-- A text of calls, played on what receives them: one call a line, each line ended by a line feed. What the call of a line prints on a receiver s, and
-- the receiver after it, is `plays s line`: none where the line is no call.
use Rattle.std.specs.Prelude.{ℕ, ◌+◌, ◌≡◌, Bool, cond, not, ◌&&◌, List, [], ◌∷◌, ◌++◌, eqb, ltb, length, take}
use Rattle.std.specs.Prelude.{Option, Some, None}
use Rattle.text.specs.Parts.{split}
use Rattle.ledger.specs.Bench.{NamedCall}
use Rattle.record.specs.Record.{fresh, record_after}
use Rattle.record.specs.declared.Record.{Record}
use Rattle.text.specs.Decimal.{digits}
use Rattle.call_text.specs.Answers.{answer_line}
use Rattle.call_text.specs.Calls.{call_of}
use Rattle.text.specs.Line.{line}

-- README: '`?` and the line's number is for a line that is no call'
unfoldable pub unknown_line : ℕ → List ℕ
unknown_line k = line ((63 ∷ []) ∷ digits k ∷ [])

-- a line that is a call prints its answer, and the lines after it are played on; at another line it stops
unfoldable pub line_then : {S : Type 0} → ℕ → Option (List ℕ × S) → (S → List ℕ) → List ℕ
line_then k None go = unknown_line k
line_then k (Some done) go = done.0 ++ go done.1

-- What the lines from number k on print, played on the receiver s. The last part has no line feed after it: it is no line where it is empty and no
-- input is left after the text, else a line that was not read whole.
unfoldable pub played_from : {S : Type 0} → (S → List ℕ → Option (List ℕ × S)) → Bool → S → ℕ → List (List ℕ) → List ℕ
played_from plays left s k [] = []
played_from plays left s k (part ∷ []) = cond (eqb (length part) 0 && not left) [] (unknown_line k)
played_from plays left s k (line ∷ part ∷ parts) = line_then k (plays s line) (λ next. played_from plays left next (k + 1) (part ∷ parts))

-- what a text prints, where input is left after it or not
unfoldable pub text_played : {S : Type 0} → (S → List ℕ → Option (List ℕ × S)) → Bool → S → List ℕ → List ℕ
text_played plays left s text = played_from plays left s 1 (split 10 text)

-- README: 'The program reads at most 65,536 bytes'
unfoldable pub input_limit : ℕ
input_limit = 65536

-- what is read of an input, and whether input is left after it
abbrev pub FrontOf : List ℕ → List ℕ → Bool → Type 0
FrontOf input text left = (text ≡ take input_limit input) × (left ≡ ltb input_limit (length input))

-- the call of a line on the record r
unfoldable pub record_answers : Record → Option NamedCall → Option (List ℕ × Record)
record_answers r None = None
record_answers r (Some call) = Some (answer_line r call, record_after r call)

unfoldable pub record_plays : Record → List ℕ → Option (List ℕ × Record)
record_plays r line = record_answers r (call_of line)

-- what a text prints, played on one record
unfoldable pub played : Bool → List ℕ → List ℕ
played left text = text_played record_plays left fresh text

-- what the program prints of an input
unfoldable pub printed : List ℕ → List ℕ
printed input = played (ltb input_limit (length input)) (take input_limit input)
