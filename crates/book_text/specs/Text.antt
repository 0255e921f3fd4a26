-- A text of calls on a book: one call a line, each line ended by a line feed (play/specs/Text).
use Rattle.std.specs.Prelude.{ℕ, Bool, List, ltb, length, take, Option, Some, None}
use Rattle.book.specs.Book.{no_book}
use Rattle.book.specs.Calls.{BookCall, book_after}
use Rattle.play.specs.Text.{input_limit, text_played}
use Rattle.book_text.specs.Answers.{call_text}
use Rattle.book_text.specs.Calls.{book_call_of}
use Rattle.book_text.specs.declared.receiver.BookReceiver.{BookReceiver}

-- the call of a line on a book: what it prints, and the book after it
unfoldable pub book_answers : BookReceiver → Option BookCall → Option (List ℕ × BookReceiver)
book_answers s None = None
book_answers s (Some call) = Some (call_text s.book call, record { book = book_after s.book call })

unfoldable pub book_plays : BookReceiver → List ℕ → Option (List ℕ × BookReceiver)
book_plays s line = book_answers s (book_call_of line)

-- no book is begun
unfoldable pub no_receiver : BookReceiver
no_receiver = record { book = no_book }

-- what a text prints, where input is left after it or not; no book is begun at first
unfoldable pub summary_text : Bool → List ℕ → List ℕ
summary_text left text = text_played book_plays left no_receiver text

-- what the program prints for its input, of which it reads at most 65,536 bytes
unfoldable pub summary_printed : List ℕ → List ℕ
summary_printed input = summary_text (ltb input_limit (length input)) (take input_limit input)
