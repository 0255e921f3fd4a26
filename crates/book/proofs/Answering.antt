-- The two ends of a call on a book: it is refused and the book stays, or it is not.
use Rattle.std.specs.Prelude.{◌≡◌, ℕ, Result, Ok, Err}
use Rattle.std.proofs.Common.{sym, ap, ◌∙◌}
use Rattle.std.proofs.lemmas.Bool.{eqb-false}
use Rattle.refusal.specs.Refusal.{judged}
use Rattle.refusal.specs.declared.Refusal.{Refusal}
use Rattle.refusal.specs.laws.Judged.{judged-alike, judged-err, judged-ok, judged-taken}
use Rattle.book.specs.Book.{empty_book}
use Rattle.book.specs.Calls.{BookCall, answer_then, begin, book_after, book_answer, book_refusal, channels_after, samples_then, summary_then}
use Rattle.book.specs.Consistent.{Consistent}
use Rattle.book.specs.Done.{Changes}
use Rattle.book.specs.declared.Book.{Book}
use Rattle.book.specs.declared.BookAnswer.{BookAnswer}
use Rattle.book.specs.laws.Book.{consistent-made}
use Rattle.book.specs.laws.Calls.{after-refused, after-taken, summary-held}
use Rattle.book.proofs.After.{after-consistent}

module _ (b : Book) (call : BookCall) (c : Consistent b) where
  abbrev checked : Result Unit Refusal
  checked = judged (book_refusal b.n b.summary.k call) (record {})

  pub refused : {e : Refusal} → Err e ≡ checked → Changes b call (record { answer = Err e; book = b })
  unfolding book_answer
  refused g =
      record {
        answer = judged-alike _ _ _ _ g;
        leaves = sym (after-refused b c call (eqb-false _ 0 (judged-err _ _ _ g).0));
        keeps = c;
      }

  pub taken : Ok (record {}) ≡ checked → {next : Book} {a : BookAnswer} → next ≡ book_after b call → a ≡ answer_then call next.summary.k →
      Changes b call (record { answer = Ok a; book = next })
  unfolding book_answer
  taken g f h =
      record {
        answer = ap Ok (h ∙ ap (λ (x : Book). answer_then call x.summary.k) f) ∙ judged-taken _ _ (judged-ok _ _ _ g).0;
        leaves = f;
        keeps = rw f (after-consistent b c call);
      }

pub after-begun : (b : Book) → Consistent b → (n : ℕ) → book_refusal b.n b.summary.k (begin n) ≡ 0 → book_after b (begin n) ≡ empty_book n
unfolding channels_after summary_then samples_then empty_book
after-begun b c n e = after-taken b c (begin n) e

-- by which `Book::none` and `Book::summary` are proved
pub ruleset standing = (consistent-made, summary-held)
