-- What a call on a book says, by whether it is refused.
use Rattle.std.proofs.Common.{ℕ, ◌≡◌, refl, sym, ap, ◌∙◌, Bool, true, false, cond, List, [], ◌∷◌, Some, Ok, Err, eqb}
use Rattle.std.proofs.Common.{length}
use borrow.Author.Tests.{eq-eqb}
use Rattle.refusal.specs.Refusal.{judged, number_of, numbered}
use Rattle.refusal.specs.declared.Refusal.{Refusal}
use Rattle.refusal.specs.laws.Judged.{judged-alike, judged-ok}
use Rattle.scatter.specs.Table.{table_of}
use Rattle.scatter.specs.declared.table.Table.{Table}
use Rattle.sums.specs.Sums.{sums_of}
use Rattle.sums.specs.declared.Sums.{Sums}
use Rattle.text.specs.Decimal.{digits}
use Rattle.text.specs.Line.{line}
use Rattle.job_table.specs.Table.{samples_text}
use Rattle.book.specs.Book.{book_with, samples_in}
use Rattle.book.specs.Calls.{BookCall, add, answer_then, begin, book_after, book_answer, book_refusal, channels_after}
use Rattle.book.specs.Calls.{make_table, read_summary, rebuild, samples_then, strike, summary_then}
use Rattle.book.specs.Consistent.{Consistent}
use Rattle.book.specs.Done.{Changes, table_to}
use Rattle.book.specs.declared.Book.{Book}
use Rattle.book.specs.declared.Changed.{Changed}
use Rattle.book.specs.laws.Calls.{summary-held}
use Rattle.book_text.specs.Answers.{answer_text, call_text, sums_line}
use Rattle.book_text.specs.declared.call.BookPlay.{BookPlay}
use Rattle.book_text.specs.inner.Played.{PlaysCall, ShortPlay, TablePage, plays, short_text}

module _ (b : Book) where
  abbrev refusal : BookCall → ℕ
  refusal call = book_refusal b.n b.summary.k call

  -- the line of a refusal
  pub refused-text : {X : Type 0} (call : BookCall) (x : X) (r : Refusal) → Err r ≡ judged (refusal call) x →
      line ((88 ∷ []) ∷ digits (number_of r) ∷ []) ≡ call_text b call
  unfolding book_answer call_text answer_text
  refused-text call x r e = rw (← judged-alike (refusal call) x r (answer_then call (book_after b call).summary.k) e)

  pub sums-text : refusal read_summary ≡ 0 → sums_line b.n (sums_of (samples_in b)) ≡ call_text b read_summary
  unfolding book_answer judged call_text answer_then answer_text
  sums-text e = rw (eq-eqb (refusal read_summary) 0 e)

  -- a rebuild says what the summary says
  pub rebuild-same : call_text b read_summary ≡ call_text b rebuild
  unfolding call_text book_answer book_refusal answer_then
  rebuild-same = refl

  pub sums-say : {X : Type 0} (x y : X) {n : ℕ} {u : Sums} {p : List ℕ} → Ok y ≡ judged (refusal read_summary) x → n ≡ b.n →
      u ≡ sums_of (samples_in b) → p ≡ sums_line n u → (p ≡ call_text b read_summary) × (p ≡ call_text b rebuild)
  sums-say x y {n} {u} {p} e m v h =
      let w : sums_line n u ≡ call_text b read_summary =
      ap (λ i. sums_line i u) m ∙ ap (sums_line b.n) v ∙ sums-text (judged-ok (refusal read_summary) x y e).0 in
      let s : p ≡ call_text b read_summary = h ∙ w in
      (s, s ∙ rebuild-same)

  -- a table that is made is that of the book's samples
  pub table-held : {z : Table} {n : ℕ} → Ok z ≡ table_to b → n ≡ b.n → z ≡ table_of n (samples_in b)
  unfolding table_to
  table-held {z} {n} e m =
      (judged-ok (refusal make_table) (table_of b.n (samples_in b)) z e).1 ∙ ap (λ i. table_of i (samples_in b)) (sym m)

  pub table-says : {z : Table} {n : ℕ} {u : Sums} {p : List ℕ} → Ok z ≡ table_to b → n ≡ b.n → u ≡ sums_of (samples_in b) → TablePage n u.k z p →
      p ≡ call_text b make_table
  unfolding sums_of table_to book_answer judged call_text answer_then answer_text
  table-says {z} {n} {u} {p} e m v h =
      let t = judged-ok (refusal make_table) (table_of b.n (samples_in b)) z e in
      let k : u.k ≡ length (samples_in b) = ap (λ (x : Sums). x.k) v in
      let g : z ≡ table_of n (samples_in b) = t.1 ∙ ap (λ i. table_of i (samples_in b)) (sym m) in
      let w : samples_text n u.k (samples_in b) ≡ call_text b make_table =
      ap (λ i. samples_text i u.k (samples_in b)) m ∙ ap (λ i. samples_text b.n i (samples_in b)) k ∙ rw (eq-eqb (refusal make_table) 0 t.0) in
      h.page (samples_in b) g ∙ w

  -- a call whose answer has one number or none
  abbrev Short : BookCall → Type 0
  Short call = (k : ℕ) → short_text (Ok (answer_then call k)) ≡ answer_text (Ok (answer_then call k)) b

  begin-short : (m : ℕ) → Short (begin m)
  unfolding short_text answer_then answer_text
  begin-short m k = refl

  add-short : (d : ℕ) (counts : List ℕ) → Short (add d counts)
  unfolding short_text answer_then answer_text
  add-short d counts k = refl

  strike-short : (i : ℕ) → Short (strike i)
  unfolding short_text answer_then answer_text
  strike-short i k = refl

  said-short : (call : BookCall) → Short call → short_text (book_answer b call) ≡ call_text b call
  unfolding book_answer judged call_text short_text answer_text
  said-short call s = by (eqb (refusal call) 0)
    where
      by : (t : Bool) → short_text (cond t (Ok (answer_then call (book_after b call).summary.k)) (Err (numbered (refusal call)))) ≡
          answer_text (cond t (Ok (answer_then call (book_after b call).summary.k)) (Err (numbered (refusal call)))) b
      by true = s (book_after b call).summary.k
      by false = refl

  changes-play : (call : BookCall) → Short call → (z : Changed) (r : BookPlay) → Changes b call z → ShortPlay z r → PlaysCall b (Some call) (Some r)
  changes-play call s z r h p =
      plays (record {
        leaves = p.book ∙ h.leaves;
        page = p.page ∙ rw h.answer (said-short call s);
        keeps = rw p.book h.keeps;
      })

  pub begin-plays : (m : ℕ) (z : Changed) (r : BookPlay) → Changes b (begin m) z → ShortPlay z r → PlaysCall b (Some (begin m)) (Some r)
  begin-plays m z r h p = changes-play (begin m) (begin-short m) z r h p

  pub add-plays : (d : ℕ) (counts : List ℕ) (z : Changed) (r : BookPlay) → Changes b (add d counts) z → ShortPlay z r →
      PlaysCall b (Some (add d counts)) (Some r)
  add-plays d counts z r h p = changes-play (add d counts) (add-short d counts) z r h p

  pub strike-plays : (i : ℕ) (z : Changed) (r : BookPlay) → Changes b (strike i) z → ShortPlay z r → PlaysCall b (Some (strike i)) (Some r)
  strike-plays i z r h p = changes-play (strike i) (strike-short i) z r h p

  -- a call that only asks leaves the book
  module _ (c : Consistent b) where
    stays : (t : Bool) → cond t (book_with b.n b.summary (samples_in b)) b ≡ b
    stays true = ap (λ t. book_with b.n t (samples_in b)) (summary-held b c) ∙ sym c.is
    stays false = refl

    pub read_stays : book_after b read_summary ≡ b
    unfolding book_after channels_after summary_then samples_then
    read_stays = stays (eqb (refusal read_summary) 0)

    pub rebuild-stays : book_after b rebuild ≡ b
    unfolding book_after channels_after summary_then samples_then
    rebuild-stays = stays (eqb (refusal rebuild) 0)

    pub table_stays : book_after b make_table ≡ b
    unfolding book_after channels_after summary_then samples_then
    table_stays = stays (eqb (refusal make_table) 0)

    pub bare-plays : (call : BookCall) → book_after b call ≡ b → {p : List ℕ} → p ≡ call_text b call →
        PlaysCall b (Some call) (Some (record { book = b; page = p }))
    bare-plays call stays h = plays (record { leaves = sym stays; page = h; keeps = c })
