-- What a call that is not refused makes of a book: its samples stay proper, and the summary, brought up to date by one sample, is theirs.
use Rattle.std.specs.Prelude.{◌≡◌, List, [], ◌∷◌, ◌++◌, ℕ, ◌-◌, length, take}
use Rattle.std.proofs.Math.Path.{refl, ap}
use Rattle.std.proofs.Common.{◌∙◌}
use Rattle.std.proofs.Math.Decide.{ℕ_discrete}
use Rattle.std.proofs.Math.ListN.{drop}
use Rattle.readings.specs.Samples.{Sample, sample}
use Rattle.sums.specs.Combined.{minus_of}
use Rattle.sums.specs.Sums.{sums_of}
use Rattle.sums.specs.laws.Combined.{sums-minus, sums-plus}
use Rattle.book.specs.Book.{book_with, samples_in}
use Rattle.book.specs.Calls.{BookCall, add, begin, book_after, book_refusal, channels_after, ith, make_table, read_summary, rebuild}
use Rattle.book.specs.Calls.{samples_then, strike, summary_then, without}
use Rattle.book.specs.Consistent.{AllProper, Consistent}
use Rattle.book.specs.declared.Book.{Book}
use Rattle.book.specs.laws.Book.{consistent-made, proper-append, proper-front, proper-rest}
use Rattle.book.specs.laws.Calls.{add-taken, after-refused, after-taken, ith-place, number-held, strike-taken, summary-held, then-channels, then-few}

module _ (n : ℕ) (ss : List Sample) where
  pub then-sums : (call : BookCall) → book_refusal n (length ss) call ≡ 0 → summary_then call (sums_of ss) ss ≡ sums_of (samples_then call ss)
  unfolding summary_then samples_then without
  then-sums (begin m) e = refl
  then-sums (add dilution counts) e = sums-plus ss (sample dilution counts ∷ [])
  then-sums (strike i) e =
      let t = strike-taken n (length ss) i e in
      ap (λ l. minus_of (sums_of l) (sums_of (ith i ss ∷ []))) (ith-place i ss t.1 t.2) ∙ sums-minus (take (i - 1) ss) (drop i ss) (ith i ss)
  then-sums read_summary e = refl
  then-sums rebuild e = refl
  then-sums make_table e = refl

  pub then-proper : (call : BookCall) → book_refusal n (length ss) call ≡ 0 → AllProper n ss →
      AllProper (channels_after call n) (samples_then call ss)
  unfolding channels_after samples_then without
  then-proper (begin m) e p = tt
  then-proper (add dilution counts) e p =
      let t = add-taken n (length ss) dilution counts e in
      proper-append n ss (sample dilution counts ∷ []) p (record { ranges = t.ranges; counted = t.counted }, tt)
  then-proper (strike i) e p =
      let t = strike-taken n (length ss) i e in
      let q : AllProper n (take (i - 1) ss ++ ith i ss ∷ drop i ss) = rw (← ith-place i ss t.1 t.2) p in
      proper-append n (take (i - 1) ss) (drop i ss) (proper-front n (take (i - 1) ss) _ q) (proper-rest n (take (i - 1) ss)
      (ith i ss ∷ drop i ss) q).1
  then-proper read_summary e p = p
  then-proper rebuild e p = p
  then-proper make_table e p = p

module _ (b : Book) (c : Consistent b) where
  module _ (call : BookCall) where
    module _ (e : book_refusal b.n b.summary.k call ≡ 0) where
      on-length : book_refusal b.n (length (samples_in b)) call ≡ 0
      on-length = rw (number-held b) at e

      pub after-made : book_after b call ≡
          book_with (channels_after call b.n) (sums_of (samples_then call (samples_in b))) (samples_then call (samples_in b))
      after-made =
          after-taken b c call e
          ∙ ap (λ t. book_with (channels_after call b.n) t (samples_then call (samples_in b)))
          (ap (λ t. summary_then call t (samples_in b)) (summary-held b c) ∙ then-sums b.n (samples_in b) call on-length)

      pub made-proper : AllProper (channels_after call b.n) (samples_then call (samples_in b))
      made-proper = then-proper b.n (samples_in b) call on-length c.proper

      taken-consistent : Consistent (book_after b call)
      taken-consistent =
          rw after-made
          (consistent-made _ _ made-proper (then-channels b.n (samples_in b) call on-length c.channels)
          (then-few b.n (samples_in b) call on-length c.number))

    pub after-consistent : Consistent (book_after b call)
    after-consistent = by (ℕ_discrete (book_refusal b.n b.summary.k call) 0)
      where
        by : Dec (book_refusal b.n b.summary.k call ≡ 0) → Consistent (book_after b call)
        by (yes e) = taken-consistent e
        by (no f) = rw (after-refused b c call f) c
