-- The calls on a book of samples: what each is refused with, what it answers, and the book after it. Document 02, W7.
use Rattle.std.specs.Prelude.{ℕ, ◌-◌, cond, List, [], ◌∷◌, ◌++◌, eqb, leb, ltb, get_or, take, drop, Result}
use Rattle.limits.specs.Limits.{least_channels, least_samples, most_channels, most_samples}
use Rattle.limits.specs.Unless.{unless}
use Rattle.refusal.specs.Refusal.{judged}
use Rattle.refusal.specs.declared.Refusal.{Refusal}
use Rattle.integer.specs.Within.{within}
use Rattle.readings.specs.Ranges.{values_within}
use Rattle.readings.specs.Refusal.{are_counted}
use Rattle.readings.specs.Samples.{Sample, sample}
use Rattle.sums.specs.Combined.{minus_of, plus_of}
use Rattle.sums.specs.Sums.{sums_of}
use Rattle.sums.specs.declared.Sums.{Sums}
use Rattle.book.specs.Book.{book_with, samples_in}
use Rattle.book.specs.declared.Book.{Book}
use Rattle.book.specs.declared.BookAnswer.{BookAnswer}
use Rattle.book.specs.declared.BookAnswer.TheVariants.{Begun, Added, Struck, Summed, Tabled}

pub data BookCall : Type 0 where
  begin : ℕ → BookCall
  add : ℕ → List ℕ → BookCall
  strike : ℕ → BookCall
  read_summary : BookCall
  rebuild : BookCall
  make_table : BookCall

-- 'A summary for n outside 2..8 gets 2', and so does every call on one
abbrev pub channels_then : ℕ → ℕ → ℕ
channels_then n later = unless (within least_channels most_channels n) 2 later

-- The number that a call is refused with, on a book of k samples of n channels, or 0. 'An added sample with values out of range gets 2, then one
-- without n counts gets 6, then a 257th gets 3. Striking a number outside 1 to the present number of samples gives 14.' 'Zero or one sample may be
-- held here; a table from such a summary gets 3'.
unfoldable pub book_refusal : ℕ → ℕ → BookCall → ℕ
book_refusal n k (begin m) = channels_then m 0
book_refusal n k (add dilution counts) =
    unless (values_within n (dilution ∷ []) counts) 2 (unless (are_counted n (dilution ∷ []) counts) 6 (unless (ltb k most_samples) 3 0))
book_refusal n k (strike i) = channels_then n (unless (within 1 k i) 14 0)
book_refusal n k read_summary = channels_then n 0
book_refusal n k rebuild = channels_then n 0
book_refusal n k make_table = channels_then n (unless (leb least_samples k) 3 0)

-- the i-th sample, counted from 1
unfoldable pub ith : ℕ → List Sample → Sample
ith i ss = get_or ss (i - 1) (sample 0 [])

-- 'striking the i-th, after which the later ones move up one place'
unfoldable pub without : ℕ → List Sample → List Sample
without i ss = take (i - 1) ss ++ drop i ss

-- the samples after a call that is not refused: 'Adding a sample at the end or striking the i-th'
unfoldable pub samples_then : BookCall → List Sample → List Sample
samples_then (begin m) ss = []
samples_then (add dilution counts) ss = ss ++ (sample dilution counts ∷ [])
samples_then (strike i) ss = without i ss
samples_then read_summary ss = ss
samples_then rebuild ss = ss
samples_then make_table ss = ss

-- and the channels
unfoldable pub channels_after : BookCall → ℕ → ℕ
channels_after (begin m) n = m
channels_after (add dilution counts) n = n
channels_after (strike i) n = n
channels_after read_summary n = n
channels_after rebuild n = n
channels_after make_table n = n

-- '.. updates the summary without reading the others': by the sums of the one sample that is added or struck
unfoldable pub summary_then : BookCall → Sums → List Sample → Sums
summary_then (begin m) t ss = sums_of []
summary_then (add dilution counts) t ss = plus_of t (sums_of (sample dilution counts ∷ []))
summary_then (strike i) t ss = minus_of t (sums_of (ith i ss ∷ []))
summary_then read_summary t ss = t
summary_then rebuild t ss = t
summary_then make_table t ss = t

-- the answer of a call that is not refused, with the number of samples after it
unfoldable pub answer_then : BookCall → ℕ → BookAnswer
answer_then (begin m) k = Begun
answer_then (add dilution counts) k = Added k
answer_then (strike i) k = Struck k
answer_then read_summary k = Summed
answer_then rebuild k = Summed
answer_then make_table k = Tabled

-- A refusal leaves the book as it was.
unfoldable pub book_after : Book → BookCall → Book
book_after b call =
    cond (eqb (book_refusal b.n b.summary.k call) 0)
    (book_with (channels_after call b.n) (summary_then call b.summary (samples_in b)) (samples_then call (samples_in b)))
    b

unfoldable pub book_answer : Book → BookCall → Result BookAnswer Refusal
book_answer b call = judged (book_refusal b.n b.summary.k call) (answer_then call (book_after b call).summary.k)
