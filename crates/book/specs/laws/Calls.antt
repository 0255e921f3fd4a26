-- What a call that is not refused tells, and what it makes of a book and of its samples, at most 256.
use Rattle.std.specs.Prelude.{◌≡◌, true, List, [], ◌∷◌, ◌++◌, ℕ, suc, ◌-◌, ◌<◌, ◌≤◌, ltb, length, get_or, take}
use Rattle.std.proofs.Math.Path.{ap}
use Rattle.std.proofs.Common.{sym, ◌∙◌, mul-one, eq-eqb, ne_eqb, ltb-true, eqb→eq, length-drop}
use native.Mathlib.Omega.{arith}
use Rattle.std.specs.Float.Ieee.Bits.{is_true}
use Rattle.std.proofs.Math.ListN.{drop, length-append, length-take}
use Rattle.std.proofs.Math.Seq.{split_at}
use Rattle.std.proofs.lemmas.Bool.{and_parts}
use Rattle.limits.specs.Limits.{least_channels, most_channels, most_samples}
use Rattle.limits.specs.Unless.{unless}
use Rattle.limits.specs.laws.Unless.{passed}
use Rattle.integer.specs.Within.{within}
use Rattle.integer.specs.laws.Tabulate.{length-tabulate}
use Rattle.integer.specs.laws.Within.{is_within}
use Rattle.readings.specs.Ranges.{samples_within, values_within}
use Rattle.readings.specs.Refusal.{are_counted}
use Rattle.readings.specs.Samples.{Sample, sample}
use Rattle.sums.specs.Sums.{sums_of}
use Rattle.book.specs.Book.{book_with, samples_in}
use Rattle.book.specs.Calls.{BookCall, add, begin, book_after, book_refusal, channels_after, channels_then, ith, make_table, read_summary, rebuild}
use Rattle.book.specs.Calls.{samples_then, strike, summary_then, without}
use Rattle.book.specs.Consistent.{Consistent}
use Rattle.book.specs.declared.Book.{Book}

-- ---- what a call that is not refused tells

pub channels-passed : (n later : ℕ) → channels_then n later ≡ 0 → (least_channels ≤ n) × (n ≤ most_channels) × (later ≡ 0)
channels-passed n later e =
    let p = passed (within least_channels most_channels n) 2 later e (omega arith) in
    let w = is_within least_channels most_channels n (is_true _ p.0) in
    (w.0, w.1, p.1)

-- a sample that is taken
pub record Takes (n k dilution : ℕ) (counts : List ℕ) : Type 0 where
  pub least : least_channels ≤ n
  pub channels : n ≤ most_channels
  pub ranges : samples_within (dilution ∷ []) counts ≡ true
  pub counted : length counts ≡ n
  pub room : k < most_samples

pub add-taken : (n k dilution : ℕ) (counts : List ℕ) → book_refusal n k (add dilution counts) ≡ 0 → Takes n k dilution counts
unfolding book_refusal
add-taken n k dilution counts e =
    let values = passed (values_within n (dilution ∷ []) counts) 2 _ e (omega arith) in
    let counted = passed (are_counted n (dilution ∷ []) counts) 6 (unless (ltb k most_samples) 3 0) values.1 (omega arith) in
    let room = passed (ltb k most_samples) 3 0 counted.1 (omega arith) in
    let w = and_parts (within least_channels most_channels n) (samples_within (dilution ∷ []) counts) (is_true _ values.0) in
    let c = is_within least_channels most_channels n w.0 in
    record {
      least = c.0;
      channels = c.1;
      ranges = w.1;
      counted = eqb→eq _ _ counted.0 ∙ mul-one n;
      room = ltb-true k most_samples (is_true _ room.0);
    }

pub strike-taken : (n k i : ℕ) → book_refusal n k (strike i) ≡ 0 → (n ≤ most_channels) × (1 ≤ i) × (i ≤ k)
unfolding book_refusal
strike-taken n k i e =
    let c = channels-passed n (unless (within 1 k i) 14 0) e in
    let p = passed (within 1 k i) 14 0 c.2 (omega arith) in
    let w = is_within 1 k i (is_true _ p.0) in
    (c.1, w.0, w.1)

-- ---- the samples after it

-- the struck sample in its place
pub ith-place : (i : ℕ) (ss : List Sample) → 1 ≤ i → i ≤ length ss → ss ≡ take (i - 1) ss ++ ith i ss ∷ drop i ss
unfolding ith
ith-place i ss h g =
    split_at ss (i - 1) (sample 0 []) (omega arith)
    ∙ ap (λ m. take (i - 1) ss ++ get_or ss (i - 1) (sample 0 []) ∷ drop m ss) (next i h)
  where
    next : (i : ℕ) → 1 ≤ i → suc (i - 1) ≡ i
    next i h = omega arith

module _ (n : ℕ) (ss : List Sample) where
  pub then-few : (call : BookCall) → book_refusal n (length ss) call ≡ 0 → length ss ≤ most_samples → length (samples_then call ss) ≤ most_samples
  unfolding samples_then without
  then-few (begin m) e h = omega arith
  then-few (add dilution counts) e h =
      let t = add-taken n (length ss) dilution counts e in
      rw length-append (omega (arith, t.room))
  then-few (strike i) e h = simp (length-append, length-take, length-drop) (omega arith)
  then-few read_summary e h = h
  then-few rebuild e h = h
  then-few make_table e h = h

  pub then-channels : (call : BookCall) → book_refusal n (length ss) call ≡ 0 → n ≤ most_channels → channels_after call n ≤ most_channels
  unfolding channels_after book_refusal
  then-channels (begin m) e h = (channels-passed m 0 e).1
  then-channels (add dilution counts) e h = h
  then-channels (strike i) e h = h
  then-channels read_summary e h = h
  then-channels rebuild e h = h
  then-channels make_table e h = h

-- ---- the book after it

pub number-held : (b : Book) → b.summary.k ≡ length (samples_in b)
unfolding samples_in
number-held b = sym (length-tabulate b.summary.k _)

module _ (b : Book) (c : Consistent b) where
  pub summary-held : b.summary ≡ sums_of (samples_in b)
  unfolding book_with
  summary-held = ap (λ (x : Book). x.summary) c.is

  module _ (call : BookCall) where
    pub after-refused : (book_refusal b.n b.summary.k call ≡ 0 → ⊥) → book_after b call ≡ b
    unfolding book_after
    after-refused f = rw (ne_eqb (book_refusal b.n b.summary.k call) 0 f)

    module _ (e : book_refusal b.n b.summary.k call ≡ 0) where
      pub after-taken : book_after b call ≡
          book_with (channels_after call b.n) (summary_then call b.summary (samples_in b)) (samples_then call (samples_in b))
      unfolding book_after
      after-taken = rw (eq-eqb (book_refusal b.n b.summary.k call) 0 e)
