-- What the definitions of the calls mean: where each sample stands after a strike, and the order of the refusals.
use Rattle.std.specs.Prelude.{◌≡◌, refl, true, false, List, [], ◌∷◌, ℕ, ◌+◌, ◌-◌, ◌<◌, ◌≤◌, ltb, take, drop}
use Rattle.std.proofs.Common.{sym, ◌∙◌, arith, length-append, length-drop, length-take-le}
use Rattle.std.proofs.Math.Path.{ap}
use Rattle.std.proofs.Math.ListN.{length, get_or, get_or-append}
use Rattle.std.proofs.Math.Seq.{get_or-append-add, get_or-drop, get_or-take}
use Rattle.limits.specs.Limits.{most_samples}
use Rattle.integer.specs.Within.{all_within, within}
use Rattle.readings.specs.Ranges.{values_within}
use Rattle.readings.specs.Refusal.{are_counted}
use Rattle.readings.specs.Samples.{Sample}
use Rattle.refusal.specs.Refusal.{judged}
use Rattle.book.specs.Calls.{BookCall, add, answer_then, begin, book_answer, book_refusal, make_table, read_summary, rebuild, strike, without}
use Rattle.book.specs.declared.Book.{Book}
use Rattle.book.specs.declared.BookAnswer.TheVariants.{Summed, Tabled}

-- 'striking the i-th, after which the later ones move up one place'
module _ (i : ℕ) (ss : List Sample) (first : 1 ≤ i) (last : i ≤ length ss) where
  front : length (take (i - 1) ss) ≡ i - 1
  front = length-take-le (i - 1) ss (omega arith)

  pub one_fewer : length (without i ss) + 1 ≡ length ss
  unfolding without
  one_fewer = rw (length-append, front, length-drop) (omega arith)

  pub earlier-stay : (p : ℕ) (d : Sample) → p + 1 < i → get_or (without i ss) p d ≡ get_or ss p d
  unfolding without
  earlier-stay p d h =
      let l : p < length (take (i - 1) ss) = rw front (omega arith) in
      get_or-append (take (i - 1) ss) (drop i ss) d p l ∙ get_or-take (i - 1) ss p d (omega arith)

  moved : (q : ℕ) (d : Sample) → get_or (without i ss) (i - 1 + q) d ≡ get_or ss (i + q) d
  unfolding without
  moved q d =
      ap (λ m. get_or (without i ss) (m + q) d) (sym front) ∙ get_or-append-add (take (i - 1) ss) (drop i ss) q d ∙ get_or-drop i ss q d

  pub later-move-up : (p : ℕ) (d : Sample) → i ≤ p + 1 → get_or (without i ss) p d ≡ get_or ss (p + 1) d
  later-move-up p d h =
      ap (λ m. get_or (without i ss) m d) (back i p first h) ∙ moved (p + 1 - i) d ∙ ap (λ m. get_or ss m d) (on i p h)
    where
      back : (i p : ℕ) → 1 ≤ i → i ≤ p + 1 → p ≡ i - 1 + (p + 1 - i)
      back i p f h = omega arith

      on : (i p : ℕ) → i ≤ p + 1 → i + (p + 1 - i) ≡ p + 1
      on i p h = omega arith

-- 'An added sample with values out of range gets 2, then one without n counts gets 6, then a 257th gets 3': in that order, whatever else is wrong
module _ (n k dilution : ℕ) (counts : List ℕ) where
  pub range-first : values_within n (dilution ∷ []) counts ≡ false → book_refusal n k (add dilution counts) ≡ 2
  unfolding book_refusal
  range-first e = rw e

  pub counted-second : values_within n (dilution ∷ []) counts ≡ true → are_counted n (dilution ∷ []) counts ≡ false →
      book_refusal n k (add dilution counts) ≡ 6
  unfolding book_refusal
  counted-second e f = rw (e, f)

  pub room-third : values_within n (dilution ∷ []) counts ≡ true → are_counted n (dilution ∷ []) counts ≡ true → ltb k most_samples ≡ false →
      book_refusal n k (add dilution counts) ≡ 3
  unfolding book_refusal
  room-third e f g = rw (e, f, g)

  pub taken-last : values_within n (dilution ∷ []) counts ≡ true → are_counted n (dilution ∷ []) counts ≡ true → ltb k most_samples ≡ true →
      book_refusal n k (add dilution counts) ≡ 0
  unfolding book_refusal
  taken-last e f g = rw (e, f, g)

-- until a book is begun every call but `begin` is refused 2, before 6, 3 and 14
pub not-begun : (k : ℕ) (call : BookCall) → ((m : ℕ) → call ≡ begin m → ⊥) → book_refusal 0 k call ≡ 2
unfolding book_refusal within
not-begun k (begin m) f = absurd (f m refl)
not-begun k (add dilution counts) f = refl
not-begun k (strike i) f = refl
not-begun k read_summary f = refl
not-begun k rebuild f = refl
not-begun k make_table f = refl

-- the calls that only ask: their answers, and the table, are refused alike
module _ (b : Book) where
  pub summary-answer : book_answer b read_summary ≡ judged (book_refusal b.n b.summary.k read_summary) Summed
  unfolding book_answer answer_then
  summary-answer = refl

  pub rebuild-answer : book_answer b rebuild ≡ judged (book_refusal b.n b.summary.k rebuild) Summed
  unfolding book_answer answer_then
  rebuild-answer = refl

  pub table-answer : book_answer b make_table ≡ judged (book_refusal b.n b.summary.k make_table) Tabled
  unfolding book_answer answer_then
  table-answer = refl

-- ---- worked examples: n of 1 and 9; a 256th and a 257th sample; striking 0, the first, the last and the one after it; tables of 1 and of 2 samples
examples : (book_refusal 0 0 (begin 1) ≡ 2) × (book_refusal 0 0 (begin 2) ≡ 0) × (book_refusal 0 0 (begin 9) ≡ 2) ×
    (book_refusal 2 255 (add 1 (0 ∷ 65_535 ∷ [])) ≡ 0) × (book_refusal 2 256 (add 1 (0 ∷ 65_535 ∷ [])) ≡ 3) ×
    (book_refusal 2 256 (add 1 (0 ∷ [])) ≡ 6) × (book_refusal 2 256 (add 101 (0 ∷ [])) ≡ 2) × (book_refusal 0 0 (add 1 (0 ∷ 0 ∷ [])) ≡ 2) ×
    (book_refusal 2 3 (strike 0) ≡ 14) × (book_refusal 2 3 (strike 1) ≡ 0) × (book_refusal 2 3 (strike 3) ≡ 0) × (book_refusal 2 3 (strike 4) ≡ 14) ×
    (book_refusal 2 1 make_table ≡ 3) × (book_refusal 2 2 make_table ≡ 0) × (book_refusal 0 0 make_table ≡ 2)
unfolding book_refusal within all_within
examples = (refl, refl, refl, refl, refl, refl, refl, refl, refl, refl, refl, refl, refl, refl, refl)
