-- What a text of calls prints, in a lent buffer.
use Rattle.std.specs.Prelude.{ℕ, ◌≡◌, false, cond, List, Result, Ok, Err, leb, length}
use Rattle.text.specs.Put.{fitted}
use Rattle.play.specs.Text.{played}
use Rattle.refusal.specs.declared.Refusal.{Refusal}
use Rattle.refusal.specs.Refusal.{numbered}

-- The answer, of a buffer of so many bytes: the length of what the text prints, or 12 where it is longer than the buffer
unfoldable pub output_of : List ℕ → ℕ → Result ℕ Refusal
output_of text size = cond (leb (length (played false text)) size) (Ok (length (played false text))) (Err (numbered 12))

-- The buffer: what the text prints at its start, and bytes past it stay; where that is too long, all stay
unfoldable pub played_into : List ℕ → List ℕ → List ℕ
played_into text entry = fitted (played false text) entry

pub record PlaysAll (text entry exit : List ℕ) (r : Result ℕ Refusal) : Type 0 where
  pub answer : r ≡ output_of text (length entry)
  pub buffer : exit ≡ played_into text entry
