-- A step of a book at a place, by whether another line follows.
use Rattle.std.proofs.Common.{◌≡◌, ℕ, Bool, true, false, List, Some, None, sym, ◌∙◌, append-nil, arith}
use Rattle.book.specs.Consistent.{Consistent}
use Rattle.play.specs.Steps.{Steps, Within, cursor_at, lines_from}
use Rattle.play.specs.declared.cursor.Cursor.{Cursor}
use Rattle.play.specs.declared.step.Stepped.{Stepped}
use Rattle.play.specs.laws.Steps.{prints-last, prints-more}
use Rattle.book_text.specs.Steps.{StepsBook, printed_from}
use Rattle.book_text.specs.Text.{book_plays}
use Rattle.book_text.specs.declared.receiver.BookReceiver.{BookReceiver}

module _ {text : List ℕ} {left : Bool} {at k : ℕ} {s next : BookReceiver} {z : Stepped 2048}
    (t : Steps book_plays text left (cursor_at at k) s z next) (kept : Consistent next.book) where
  pub goes_on : (on : Cursor) → z.next ≡ Some on →
      StepsBook text left s.book at k (record { more = true; at = on.at; line = on.line; book = next.book; page = z.page })
  unfolding printed_from lines_from cursor_at
  goes_on on e =
      let m = t.moves on e in
      record { prints = prints-more t on e; keeps = kept; starts = m.1; moves = λ _. m.0 }

  pub stops : Within text (cursor_at at k) → z.next ≡ None →
      StepsBook text left s.book at k (record { more = false; at = at; line = k; book = next.book; page = z.page })
  unfolding printed_from lines_from cursor_at
  stops w e = record {
    prints = prints-last t e ∙ sym (append-nil _);
    keeps = kept;
    starts = w;
    moves = λ (q : false ≡ true). let x : ◌≡◌ {A = ℕ} 0 1 = cc in absurd (omega arith);
  }
