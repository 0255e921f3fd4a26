-- One sample added to the arrays of a book, and one taken out; and the lemmas that a book's functions are proved by.
use mathlib.Core.Path.{◌≡◌, sym, ap, ◌∙◌}
use mathlib.Core.Bool.{true}
use mathlib.Core.List.{List, [], ◌∷◌, ◌++◌, append-nil}
use Prim.Native.Nat.{ℕ, zero, suc, ◌+◌, ◌-◌, ◌*◌, ◌<◌, ◌≤◌}
use native.Mathlib.Nat.{mul-zero, mul-one, mul-suc, mul-le-mul, le_refl}
use native.Mathlib.Omega.{arith}
use lib.ListN.{length, get_or, take, drop, set, length-drop, length-append}
use lib.Seq.{sets, take_all, length-take-le, get_or-drop}
use Rattle.std.proofs.lemmas.Bool.{and_parts}
use Rattle.limits.specs.Limits.{least_dilution, most_channels, most_count, most_dilution, most_samples}
use Rattle.integer.specs.Padded.{padded}
use Rattle.integer.specs.Tabulate.{tabulate}
use Rattle.integer.specs.Within.{all_within}
use Rattle.integer.specs.laws.Padded.{padded-closed, padded-more}
use Rattle.integer.specs.laws.Tabulate.{get_d_tabulate}
use Rattle.integer.specs.laws.Within.{all-at}
use Rattle.readings.specs.Ranges.{Readings}
use Rattle.readings.specs.Samples.{Sample, sample, sample_at, samples}
use Rattle.sums.specs.Combined.{minus_of, plus_of}
use Rattle.sums.specs.Ranges.{Bounded, Included}
use Rattle.sums.specs.Sums.{sums_of}
use Rattle.sums.specs.declared.Sums.{Sums}
use Rattle.sums.specs.laws.Bounds.{readings-bounded, take_bound}
use Rattle.sums.specs.laws.Combined.{sums-included}
use Rattle.sums.specs.laws.Sums.{number_of}
use Rattle.book.specs.Book.{book_with, counts_of, dilutions_of, samples_in}
use Rattle.book.specs.Calls.{add, book_after, book_refusal, channels_after, ith, samples_then, strike, summary_then, without}
use Rattle.book.specs.Consistent.{AllProper, Consistent}
use Rattle.book.specs.declared.Book.{Book}
use Rattle.book.specs.inner.Arrays.{closed_up}
use Rattle.book.specs.laws.Book.{counts-append, dilutions-append, length-counts, length-dilutions, proper-front, proper-rest}
use Rattle.book.specs.laws.Calls.{Takes, add-taken, after-taken, ith-place, number-held, strike-taken, summary-held}
use Rattle.book.specs.laws.Held.{count_most, counts-held, counts-length, counts-room, dilution-most, dilutions-held, dilutions-length, few-held}
use Rattle.book.specs.laws.Held.{so-many-counts, so-many-dilutions, summary-bounded}

-- one sample handed over
one-sample : (n d : ℕ) (cs : List ℕ) → length cs ≡ n → samples n (d ∷ []) cs ≡ sample d cs ∷ []
unfolding samples tabulate sample_at
one-sample n d cs e = rw mul-zero (ap (λ l. sample d l ∷ []) (take_all n cs (omega arith)))

module _ (b : Book) (c : Consistent b) where
  module _ (d : ℕ) (cs : List ℕ) (e : book_refusal b.n b.summary.k (add d cs) ≡ 0) where
    takes : Takes b.n b.summary.k d cs
    takes = add-taken b.n b.summary.k d cs e

    in-ranges : (all_within least_dilution most_dilution (d ∷ []) ≡ true) × (all_within 0 most_count cs ≡ true)
    in-ranges = and_parts (all_within least_dilution most_dilution (d ∷ [])) (all_within 0 most_count cs) takes.ranges

    pub added-readings : Readings b.n (d ∷ []) cs
    added-readings =
        record {
          channels = takes.channels;
          number = omega arith;
          counted = takes.counted ∙ sym (mul-one b.n);
          dilution = all-at least_dilution most_dilution (d ∷ []) in-ranges.0;
          count = all-at 0 most_count cs in-ranges.1;
        }

    pub added-place : b.summary.k < 256
    added-place = takes.room

    pub added-room : b.n * b.summary.k + length cs ≤ 2048
    added-room = omega (arith, takes.counted, mul-suc b.n b.summary.k, mul-le-mul {n₁ = b.n} takes.channels (next takes.room))
      where
        next : b.summary.k < most_samples → suc b.summary.k ≤ most_samples
        next h = omega arith

    pub added-bounded : (m : Sums) → m ≡ sums_of (samples b.n (d ∷ []) cs) → Bounded m × (b.summary.k + m.k ≤ most_samples)
    added-bounded m g = (
      rw g (readings-bounded b.n (d ∷ []) cs added-readings),
      rw (g, one-sample b.n d cs takes.counted, number_of) (omega (arith, takes.room)),
    )

    pub added : {m t : Sums} {ds xs : List ℕ} → m ≡ sums_of (samples b.n (d ∷ []) cs) → t ≡ plus_of b.summary m →
        ds ≡ set b.dilutions b.summary.k d → xs ≡ sets b.counts (b.n * b.summary.k) cs →
        ◌≡◌ {A = Book} (record { n = b.n; summary = t; dilutions = ds; counts = xs }) (book_after b (add d cs))
    unfolding book_with channels_after summary_then samples_then dilutions_of counts_of
    added {m} {t} {ds} {xs} f g h i =
        rw (g, f, one-sample b.n d cs takes.counted, h, i, dilutions, counts) (sym (after-taken b c (add d cs) e))
      where
        ss : List Sample
        ss = samples_in b

        dilutions : set b.dilutions b.summary.k d ≡ padded 256 0 (dilutions_of (samples_in b ++ (sample d cs ∷ [])))
        dilutions =
            ap (λ m. set b.dilutions m d) (sym (so-many-dilutions b c)) ∙ ap (λ l. set l (length (dilutions_of ss)) d) (dilutions-held b c)
            ∙ padded-more 256 0 (dilutions_of ss) (d ∷ []) (rw (so-many-dilutions b c) (omega (arith, takes.room)))
            ∙ ap (padded 256 0) (sym (dilutions-append ss (sample d cs ∷ [])))

        counts : sets b.counts (b.n * b.summary.k) cs ≡ padded 2048 0 (counts_of (samples_in b ++ (sample d cs ∷ [])))
        counts =
            ap (λ m. sets b.counts m cs) (sym (so-many-counts b c)) ∙ ap (λ l. sets l (length (counts_of ss)) cs) (counts-held b c)
            ∙ padded-more 2048 0 (counts_of ss) cs (rw (so-many-counts b c) added-room)
            ∙ ap (padded 2048 0) (ap (λ l. counts_of ss ++ l) (sym (append-nil cs)) ∙ sym (counts-append ss (sample d cs ∷ [])))

  module _ (i : ℕ) (e : book_refusal b.n b.summary.k (strike i) ≡ 0) where
    within : (b.n ≤ most_channels) × (1 ≤ i) × (i ≤ b.summary.k)
    within = strike-taken b.n b.summary.k i e

    pub first : 1 ≤ i
    first = within.1

    pub struck-place : i - 1 < b.summary.k
    struck-place = omega (arith, within.1, within.2)

    pub struck-end : b.n * (i - 1) + b.n ≤ b.n * b.summary.k
    struck-end = omega (arith, mul-suc b.n (i - 1), mul-le-mul {n₁ = b.n} (le_refl b.n) (next struck-place))
      where
        next : i - 1 < b.summary.k → suc (i - 1) ≤ b.summary.k
        next h = omega arith

    -- the counts of the struck sample, as they are lent
    lent_is : take (b.n * (i - 1) + b.n - b.n * (i - 1)) (drop (b.n * (i - 1)) b.counts) ≡ take b.n (drop (b.n * (i - 1)) b.counts)
    lent_is = ap (λ m. take m (drop (b.n * (i - 1)) b.counts)) (sub (b.n * (i - 1)) b.n)
      where
        sub : (x y : ℕ) → x + y - x ≡ y
        sub x y = omega arith

    lent_length : length (take b.n (drop (b.n * (i - 1)) b.counts)) ≡ b.n
    lent_length = length-take-le b.n _ (rw length-drop (omega (arith, struck-end, counts-room b c, counts-length b c)))

    pub struck-readings : Readings b.n (get_or b.dilutions (i - 1) 0 ∷ [])
        (take (b.n * (i - 1) + b.n - b.n * (i - 1)) (drop (b.n * (i - 1)) b.counts))
    struck-readings =
        rw lent_is
        (record {
          channels = c.channels;
          number = omega arith;
          counted = lent_length ∙ sym (mul-one b.n);
          dilution = one-most;
          count = take_bound most_count b.n (drop (b.n * (i - 1)) b.counts) (λ j. rw get_or-drop (count_most b c (b.n * (i - 1) + j)));
        })
      where
        one-most : (s : ℕ) → get_or (get_or b.dilutions (i - 1) 0 ∷ []) s 0 ≤ most_dilution
        one-most zero = dilution-most b c (i - 1)
        one-most (suc s) = omega arith

    struck-sample : samples b.n (get_or b.dilutions (i - 1) 0 ∷ [])
        (take (b.n * (i - 1) + b.n - b.n * (i - 1)) (drop (b.n * (i - 1)) b.counts)) ≡ ith i (samples_in b) ∷ []
    unfolding ith samples_in sample_at
    struck-sample =
        rw lent_is (one-sample b.n _ _ lent_length)
        ∙ ap (λ s. s ∷ []) (sym (get_d_tabulate b.summary.k (sample_at b.n b.dilutions b.counts) (i - 1) (sample 0 []) struck-place))

    placed : samples_in b ≡ take (i - 1) (samples_in b) ++ ith i (samples_in b) ∷ drop i (samples_in b)
    placed = ith-place i (samples_in b) within.1 (rw (← number-held b) within.2)

    pub struck-included : (m : Sums) → m ≡ sums_of (samples b.n (get_or b.dilutions (i - 1) 0 ∷ [])
        (take (b.n * (i - 1) + b.n - b.n * (i - 1)) (drop (b.n * (i - 1)) b.counts))) → Included m b.summary
    struck-included m g =
        let s : b.summary ≡ sums_of (take (i - 1) (samples_in b) ++ ith i (samples_in b) ∷ drop i (samples_in b)) =
        summary-held b c ∙ ap sums_of placed in
        rw (s, g, struck-sample) (sums-included (take (i - 1) (samples_in b)) (drop i (samples_in b)) (ith i (samples_in b)))

    before-length : length (take (i - 1) (samples_in b)) ≡ i - 1
    before-length = length-take-le (i - 1) (samples_in b) (omega (arith, number-held b, struck-place))

    dilutions-closed : closed_up (i - 1) 1 b.dilutions ≡ padded 256 0 (dilutions_of (without i (samples_in b)))
    unfolding closed_up without dilutions_of
    dilutions-closed =
        let xs = dilutions_of (take (i - 1) (samples_in b)) in
        let ws = (ith i (samples_in b)).dilution ∷ [] in
        let ys = dilutions_of (drop i (samples_in b)) in
        let split : dilutions_of (samples_in b) ≡ xs ++ (ws ++ ys) =
        ap dilutions_of placed ∙ dilutions-append (take (i - 1) (samples_in b)) (ith i (samples_in b) ∷ drop i (samples_in b)) in
        let size : length xs ≡ i - 1 = length-dilutions (take (i - 1) (samples_in b)) ∙ before-length in
        let all : length xs + (1 + length ys) ≤ 256 =
        omega (arith, few-held b c, so-many-dilutions b c, ap length split, length-append xs (ws ++ ys), length-append ws ys) in
        ap (closed_up (i - 1) 1) (dilutions-held b c ∙ ap (padded 256 0) split)
        ∙ ap (λ m. closed_up m 1 (padded 256 0 (xs ++ (ws ++ ys)))) (sym size)
        ∙ padded-closed 256 0 xs ws ys all
        ∙ ap (padded 256 0) (sym (dilutions-append (take (i - 1) (samples_in b)) (drop i (samples_in b))))

    counts-closed : closed_up (b.n * (i - 1)) b.n b.counts ≡ padded 2048 0 (counts_of (without i (samples_in b)))
    unfolding closed_up without counts_of
    counts-closed =
        let proper : AllProper b.n (take (i - 1) (samples_in b) ++ ith i (samples_in b) ∷ drop i (samples_in b)) = rw (← placed) c.proper in
        let xs = counts_of (take (i - 1) (samples_in b)) in
        let ws = (ith i (samples_in b)).counts in
        let ys = counts_of (drop i (samples_in b)) in
        let split : counts_of (samples_in b) ≡ xs ++ (ws ++ ys) =
        ap counts_of placed ∙ counts-append (take (i - 1) (samples_in b)) (ith i (samples_in b) ∷ drop i (samples_in b)) in
        let size : length xs ≡ b.n * (i - 1) =
        length-counts b.n (take (i - 1) (samples_in b)) (proper-front b.n (take (i - 1) (samples_in b)) _ proper)
        ∙ ap (λ m. b.n * m) before-length in
        let width : length ws ≡ b.n = (proper-rest b.n (take (i - 1) (samples_in b)) (ith i (samples_in b) ∷ drop i
        (samples_in b)) proper).0.counted in
        let all : length xs + (length ws + length ys) ≤ 2048 =
        omega (arith, counts-room b c, so-many-counts b c, ap length split, length-append xs (ws ++ ys), length-append ws ys) in
        ap (closed_up (b.n * (i - 1)) b.n) (counts-held b c ∙ ap (padded 2048 0) split)
        ∙ ap (λ m. closed_up m b.n (padded 2048 0 (xs ++ (ws ++ ys)))) (sym size)
        ∙ ap (λ m. closed_up (length xs) m (padded 2048 0 (xs ++ (ws ++ ys)))) (sym width)
        ∙ padded-closed 2048 0 xs ws ys all
        ∙ ap (padded 2048 0) (sym (counts-append (take (i - 1) (samples_in b)) (drop i (samples_in b))))

    pub struck : {m t : Sums} {ds xs : List ℕ} → m ≡ sums_of (samples b.n (get_or b.dilutions (i - 1) 0 ∷ [])
        (take (b.n * (i - 1) + b.n - b.n * (i - 1)) (drop (b.n * (i - 1)) b.counts))) → t ≡ minus_of b.summary m →
        ds ≡ closed_up (i - 1) 1 b.dilutions → xs ≡ closed_up (b.n * (i - 1)) b.n b.counts →
        ◌≡◌ {A = Book} (record { n = b.n; summary = t; dilutions = ds; counts = xs }) (book_after b (strike i))
    unfolding book_with channels_after summary_then samples_then
    struck f g h j =
        rw (g, f, struck-sample, h, j, dilutions-closed, counts-closed) (sym (after-taken b c (strike i) e))

-- by which `with_sample` and `without_sample` are proved
pub ruleset adding = (added, added-bounded, added-place, added-readings, added-room, counts-length, counts-room, few-held, summary-bounded)

pub ruleset striking = (
  first,
  struck,
  struck-end,
  struck-included,
  struck-place,
  struck-readings,
  counts-length,
  counts-room,
  dilutions-length,
  few-held,
)
