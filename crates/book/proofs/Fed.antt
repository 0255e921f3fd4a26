-- Document 02, W7: 'after any adds and strikes it equals one made afresh from those that remain'.
use Rattle.std.specs.Prelude.{◌≡◌, refl, List, [], ◌∷◌, length}
use Rattle.std.proofs.Math.Path.{ap, sym}
use Rattle.std.proofs.Common.{ap₂, ◌∙◌, arith}
use Rattle.std.proofs.Math.Decide.{ℕ_discrete}
use borrow.Author.Tests.{eq-eqb, ne_eqb}
use Rattle.sums.specs.Sums.{sums_of}
use Rattle.book.specs.Book.{book_with, empty_book, no_book, samples_in}
use Rattle.book.specs.Calls.{BookCall, book_after, book_refusal, channels_after, samples_then}
use Rattle.book.specs.Fed.{Fed, SummaryOfThoseThatRemain, Summarises, book_after_all, fed_all, fed_then, unfed}
use Rattle.book.specs.declared.Book.{Book}
use Rattle.book.specs.laws.Book.{consistent-made, made-samples}
use Rattle.book.specs.laws.Calls.{after-refused, number-held}
use Rattle.book.proofs.After.{after-consistent, after-made, made-proper}

module _ (b : Book) (f : Fed) (s : Summarises b f) (call : BookCall) where
  same-refusal : book_refusal b.n b.summary.k call ≡ book_refusal f.n (length f.samples) call
  same-refusal = ap₂ (λ n k. book_refusal n k call) s.channels (number-held b ∙ ap length s.samples)

  refused-alike : (book_refusal b.n b.summary.k call ≡ 0 → ⊥) → Summarises (book_after b call) (fed_then f call)
  unfolding fed_then
  refused-alike g =
      rw (after-refused b s.consistent call g, ne_eqb (book_refusal f.n (length f.samples) call) 0 (λ e. g (same-refusal ∙ e))) s

  taken-alike : book_refusal b.n b.summary.k call ≡ 0 → Summarises (book_after b call) (fed_then f call)
  unfolding fed_then book_with
  taken-alike e =
      let t : book_refusal f.n (length f.samples) call ≡ 0 = sym same-refusal ∙ e in
      let m = after-made b s.consistent call e in
      let p = made-proper b s.consistent call e in
      rw (eq-eqb (book_refusal f.n (length f.samples) call) 0 t)
      (record {
        channels = ap (λ (x : Book). x.n) m ∙ ap (channels_after call) s.channels;
        samples = ap samples_in m ∙ made-samples _ _ p ∙ ap (samples_then call) s.samples;
        summary = ap (λ (x : Book). x.summary) m ∙ ap (λ l. sums_of (samples_then call l)) s.samples;
        consistent = after-consistent b s.consistent call;
      })

  step : Summarises (book_after b call) (fed_then f call)
  step = by (ℕ_discrete (book_refusal b.n b.summary.k call) 0)
    where
      by : Dec (book_refusal b.n b.summary.k call ≡ 0) → Summarises (book_after b call) (fed_then f call)
      by (yes e) = taken-alike e
      by (no g) = refused-alike g

begun : Summarises no_book unfed
unfolding no_book empty_book unfed book_with
begun =
    record {
      channels = channels-of;
      samples = made-samples 0 [] tt;
      summary = summary-of;
      consistent = consistent-made 0 [] tt (omega arith) (omega arith);
    }
  where
    channels-of : (book_with 0 (sums_of []) []).n ≡ 0
    channels-of = refl

    summary-of : (book_with 0 (sums_of []) []).summary ≡ sums_of []
    summary-of = refl

pub from-any : (b : Book) (f : Fed) → Summarises b f → (calls : List BookCall) → Summarises (book_after_all b calls) (fed_all f calls)
unfolding book_after_all fed_all
from-any b f s [] = s
from-any b f s (call ∷ calls) = from-any (book_after b call) (fed_then f call) (step b f s call) calls

pub summary-of-those-that-remain : SummaryOfThoseThatRemain
summary-of-those-that-remain = from-any no_book unfed begun
