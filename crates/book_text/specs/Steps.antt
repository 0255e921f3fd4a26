-- A line of a text of calls on a book, played at a place: what it prints, and what is left to be played.
use Rattle.std.specs.Prelude.{ℕ, ◌<◌, ◌≡◌, Bool, true, cond, List, [], ◌++◌, drop}
use Rattle.text.specs.Parts.{split}
use Rattle.book.specs.Consistent.{Consistent}
use Rattle.book.specs.declared.Book.{Book}
use Rattle.play.specs.Steps.{Within, cursor_at}
use Rattle.play.specs.Text.{played_from}
use Rattle.book_text.specs.Text.{book_plays}
use Rattle.book_text.specs.declared.step.BookStep.{BookStep}

-- what the lines from the place `at` on print, of which the first has the number k
unfoldable pub printed_from : List ℕ → Bool → Book → ℕ → ℕ → List ℕ
printed_from text left b at k = played_from book_plays left (record { book = b }) k (split 10 (drop at text))

-- What the line prints comes first, and then what the lines after it print on the book that it left.
pub record StepsBook (text : List ℕ) (left : Bool) (b : Book) (at k : ℕ) (z : BookStep) : Type 0 where
  pub prints : printed_from text left b at k ≡ z.page ++ cond z.more (printed_from text left z.book z.at z.line) []
  pub keeps : Consistent z.book
  pub starts : Within text (cursor_at z.at z.line)
  pub moves : z.more ≡ true → at < z.at
