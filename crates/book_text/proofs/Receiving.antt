-- What a book does with a line, by the call that it is.
use Rattle.std.proofs.Common.{ℕ, ◌≡◌, refl, ap, ◌∙◌, List, Option, Some, None}
use Rattle.book.specs.Calls.{BookCall}
use Rattle.book.specs.Consistent.{Consistent}
use Rattle.book.specs.declared.Book.{Book}
use Rattle.play.specs.Receiver.{PlaysLine, printed_by}
use Rattle.play.specs.Steps.{left_by}
use Rattle.book_text.specs.Calls.{book_call_of}
use Rattle.book_text.specs.Text.{book_answers, book_plays}
use Rattle.book_text.specs.declared.call.BookPlay.{BookPlay}
use Rattle.book_text.specs.declared.receiver.BookReceiver.{BookReceiver}
use Rattle.book_text.specs.inner.Played.{PlaysCall, no_call, plays}

-- the book that a call leaves
pub call-keeps : {b : Book} {o : Option BookCall} {done : BookPlay} → PlaysCall b o (Some done) → Consistent done.book
call-keeps (plays p) = p.keeps

module _ (s : BookReceiver) (line : List ℕ) where
  pub no-call : PlaysCall s.book (book_call_of line) None → {z : Option (List ℕ)} → z ≡ None → PlaysLine (book_plays s line) s z s
  unfolding book_plays book_answers printed_by left_by
  no-call p {z} e = by p
    where
      by : {o : Option BookCall} → PlaysCall s.book o None → PlaysLine (book_answers s o) s z s
      by no_call = record { is = e; leaves = refl }

  pub a-call : {done : BookPlay} → PlaysCall s.book (book_call_of line) (Some done) →
      PlaysLine (book_plays s line) s (Some done.page) (record { book = done.book })
  unfolding book_plays book_answers printed_by left_by
  a-call p = by p
    where
      by : {o : Option BookCall} {done : BookPlay} → PlaysCall s.book o (Some done) →
          PlaysLine (book_answers s o) s (Some done.page) (record { book = done.book })
      by (plays h) = record { is = ap Some h.page; leaves = λ i. record { book = h.leaves i } }
