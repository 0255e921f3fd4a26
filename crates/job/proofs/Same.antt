-- The reading from place to place of `Scan` is the job of `Job`, in arrays: `reading_at` is `reading_of` of `job_of`.
use Prim.Native.Nat.{ℕ, zero, suc, ◌+◌, ◌-◌, ◌*◌, ◌<◌, ◌≤◌}
use mathlib.Core.Path.{◌≡◌, refl, sym, ap, ◌∙◌}
use mathlib.Core.Bool.{Bool, true, false, cond, ◌&&◌}
use mathlib.Core.List.{List, [], ◌∷◌, ◌++◌, tail}
use mathlib.Core.Option.{Option, none}
use native.Mathlib.Omega.{arith}
use borrow.Author.Tests.{ne_eqb, leb-true, ltb-true, le-leb, lt-leb, leb-false}
use lib.Dec.{eqb, leb, ltb, leb-suc-zero, lit≤}
use native.Mathlib.Nat.{zero-mul}
use lib.ListN.{length, get_or, drop, set, replicate, length-drop, length-append, get_or-append}
use lib.Seq.{sets, sets-eq, slice, take_at}
use Rattle.text.specs.Parts.{onto, split}
use Rattle.std.proofs.lemmas.Bool.{and_parts}
use Rattle.integer.specs.Within.{within}
use Rattle.integer.specs.laws.Within.{is_within}
use Rattle.readings.specs.Ranges.{parameters_in_range}
use Rattle.job.specs.Range.{sample_in_range}
use Rattle.job.specs.inner.LineScan.{line_at, sample_within, parameters_of, parameters_at, ending_of, ending_at}
use Rattle.job.specs.declared.sample.Line.{Line}
use Rattle.std.specs.Prelude.{Option as Found, None, Some, Result, Ok, Err}
use Rattle.refusal.specs.declared.Refusal.TheVariants.{OutOfRange, SampleCount, WrongEnd}
use Rattle.refusal.specs.Refusal.{numbered}
use Rattle.job.specs.declared.first.Parameters.{Parameters}
use Rattle.job.specs.JobArrays.{JobArrays}
use Rattle.job.proofs.Records.{line_in, Reads, bad, good, Cons, split-cons, line_read}
use Rattle.job.specs.Job.{Job, Answer, refused, accepted, with_sample, next_line, nothing, ended, judged_line, job_after, begun, job_of_lines, job_of}
use Rattle.integer.specs.Padded.{padded}
use Rattle.integer.specs.laws.Padded.{padded-more}
use Rattle.job.specs.Held.{in_arrays}
use Rattle.job.specs.Reading.{reading_of}
use Rattle.job.specs.inner.Scan.{new_job, refused_at, finished_by, finished_at, kept, sample_of, samples_at}
use Rattle.job.specs.laws.Scan.{reading_by, reading_at}
use Rattle.job.specs.declared.RefusedLine.{RefusedLine}
use Rattle.job.proofs.Keeping.{kept-within}
use Rattle.limits.specs.Limits.{least_channels, most_channels, least_sweeps, most_sweeps}

refused-same : (number line : ℕ) → refused_at (numbered number) line ≡ reading_of (refused number line)
unfolding reading_of
refused-same number line = refl

-- ---- the row of a line's numbers

-- The row of the numbers xs of a line, of which there are at most 9.
row_is : (xs : List ℕ) → length xs ≤ 9 → sets (replicate 9 0) 0 xs ≡ xs ++ drop (0 + length xs) (replicate 9 0)
row_is xs h = sets-eq xs (replicate 9 0) 0 (omega arith)

row_at : (xs : List ℕ) (i : ℕ) → length xs ≤ 9 → i < length xs → get_or (sets (replicate 9 0) 0 xs) i 0 ≡ get_or xs i 0
row_at xs i h g = rw (row_is xs h) (get_or-append xs _ 0 i g)

row-rest : (xs : List ℕ) (n : ℕ) → length xs ≡ suc n → n ≤ 8 → slice 1 (n + 1) (sets (replicate 9 0) 0 xs) ≡ drop 1 xs
row-rest xs n e h = rw (row_is xs (omega arith), take_at xs _ (n + 1) (omega arith))

-- ---- what follows a line

nothing-split : (bs : List ℕ) → nothing (split 10 bs) ≡ leb (length bs) 0
unfolding nothing split onto
nothing-split [] = refl
nothing-split (b ∷ bs) = go (eqb b 10) (split-cons 10 bs) ∙ sym (leb-suc-zero (length bs))
  where
    go : (t : Bool) → Cons (split 10 bs) → nothing (cond t ([] ∷ split 10 bs) (onto b (split 10 bs))) ≡ false
    go true p = rw p.same (simp (ne_eqb (suc (length p.others)) 0 (λ q. omega arith)))
    go false p = rw p.same (simp (ne_eqb (suc (length p.first)) 0 (λ q. omega arith)))

none_left : (a b : ℕ) → leb (a - b) 0 ≡ leb a b
none_left a b = go (leb a b) refl
  where
    go : (t : Bool) → leb a b ≡ t → leb (a - b) 0 ≡ t
    go true e = let h = leb-true a b e in le-leb (a - b) 0 (omega arith)
    go false e = let h = leb-false a b e in lt-leb (a - b) 0 (omega arith)

nothing-after : (text : List ℕ) (next : ℕ) (rest : List (List ℕ)) → split 10 (drop next text) ≡ rest → leb (length text) next ≡ nothing rest
nothing-after text next rest q =
    sym (ap nothing (sym q) ∙ nothing-split (drop next text) ∙ rw (length-drop next text) (none_left (length text) next))

-- ---- one sample more

-- The counts are n to a sample, and there is room for no more than 256 samples.
record Fair (j : Job) : Type 0 where
  samples : length j.dilutions ≤ 256
  channels : j.n ≤ 8
  counted : length j.counts ≡ length j.dilutions * j.n

in-range : (n : ℕ) (xs : List ℕ) → length xs ≡ suc n → n ≤ 8 → sample_within n (sets (replicate 9 0) 0 xs) ≡ sample_in_range xs
unfolding sample_within sample_in_range
in-range n xs e h = rw (row_at xs 0 (omega arith) (omega arith), row-rest xs n e h)

module _ (j : Job) (fair : Fair j) (xs : List ℕ) (e : length xs ≡ suc j.n) (h : length j.dilutions < 256) where
  kept_same : kept (in_arrays j) (sets (replicate 9 0) 0 xs) ≡ in_arrays (with_sample j xs)
  unfolding kept in_arrays with_sample
  kept_same =
      let room = kept-within (length j.dilutions) j.n h fair.channels in
      let k : length j.dilutions + 1 ≡ length (j.dilutions ++ (get_or xs 0 0 ∷ [])) = sym (length-append j.dilutions (get_or xs 0 0 ∷ [])) in
      let d : set (padded 256 0 j.dilutions) (length j.dilutions) (get_or (sets (replicate 9 0) 0 xs) 0 0) ≡ padded 256 0
      (j.dilutions ++ (get_or xs 0 0 ∷ []))
      = rw (row_at xs 0 (omega (arith, fair.channels)) (omega arith)) (padded-more 256 0 j.dilutions (get_or xs 0 0 ∷ []) (omega arith)) in
      let c : sets (padded 2048 0 j.counts) (length j.dilutions * j.n) (slice 1 (j.n + 1) (sets (replicate 9 0) 0 xs)) ≡ padded 2048 0
      (j.counts ++ drop 1 xs)
      = rw (row-rest xs j.n e fair.channels, ← fair.counted)
      (padded-more 2048 0 j.counts (drop 1 xs) (omega (arith, length-drop 1 xs, fair.counted, room))) in
      λ i. record { n = j.n; limit = j.limit; tolerance = j.tolerance; k = k i; dilutions = d i; counts = c i }

  fair-more : Fair (with_sample j xs)
  unfolding with_sample
  fair-more =
      record {
        samples = simp length-append (omega arith);
        channels = fair.channels;
        counted = simp length-append (omega (arith, length-drop 1 xs, fair.counted));
      }

-- ---- the lines after the first

module _ (text : List ℕ) (at : ℕ) (j : Job) (go : List ℕ → Answer) where
  ended_same : (a b : Bool) → finished_by (in_arrays j) (cond a (Err SampleCount) (cond b (Ok (record {})) (Err WrongEnd))) ≡ reading_of
      (cond a (refused 3 (next_line j)) (cond b (accepted j) (refused 4 (next_line j))))
  unfolding finished_by reading_of next_line in_arrays
  ended_same true b = refl
  ended_same false true = refl
  ended_same false false = refl

  finished-same : (rest : List (List ℕ)) {L : Found Line} {o : Option (List ℕ)} → Reads text (replicate 9 0) 0 1 rest L o →
      finished_by (in_arrays j) (ending_of text (length j.dilutions) L) ≡ reading_of (judged_line j none o rest go)
  unfolding ending_of judged_line ended
  finished-same rest bad = unfold finished_by reading_of next_line in_arrays in refl
  finished-same rest (good xs next e q) =
      rw (row_at xs 0 (omega arith) (omega arith), nothing-after text next rest q)
      (ended_same (ltb (length j.dilutions) 2) (eqb (get_or xs 0 0) (length j.dilutions) && nothing rest))

-- The lines as a first line, by what it is as an `S` line and as an `E` line, and the others.
after_is : (j : Job) (ls : List (List ℕ)) →
    job_after j ls ≡ judged_line j (line_in 83 (suc j.n) ls) (line_in 69 1 ls) (tail ls) (λ xs. job_after (with_sample j xs) (tail ls))
unfolding job_after line_in judged_line
after_is j [] = refl
after_is j (l ∷ []) = refl
after_is j (l ∷ part ∷ parts) = refl

-- A reading and an answer by whether a sample is in range, and whether there is room for it.
sample-same : (j : Job) (a b : Bool) (x : Result JobArrays RefusedLine) (y : Answer) → (b ≡ true → x ≡ reading_of y) →
    cond a (cond b x (refused_at SampleCount (length j.dilutions + 2))) (refused_at OutOfRange (length j.dilutions + 2)) ≡ reading_of
    (cond a (cond b y (refused 3 (next_line j))) (refused 2 (next_line j)))
unfolding next_line
sample-same j true true x y f = f refl
sample-same j true false x y f = refused-same 3 (length j.dilutions + 2)
sample-same j false b x y f = refused-same 2 (length j.dilutions + 2)

-- The reading of a line after the first, by what was read as an `S` line and as an `E` line.
judged-same : (text : List ℕ) (at : ℕ) (j : Job) → Fair j →
    (rest : List (List ℕ)) (go : List ℕ → Answer) (continue : Line → Result JobArrays RefusedLine) {L : Found Line} {o oE : Option (List ℕ)} →
    Reads text (replicate 9 0) 0 (suc j.n) rest L o →
    Reads text (replicate 9 0) 0 1 rest (line_at text at 69 0) oE →
    ((xs : List ℕ) (next : ℕ) → length xs ≡ suc j.n → split 10 (drop next text) ≡ rest → length j.dilutions < 256 →
    continue (record { numbers = sets (replicate 9 0) 0 xs; next = next }) ≡ reading_of (go xs)) →
    sample_of text at (in_arrays j) L continue ≡ reading_of (judged_line j o oE rest go)
unfolding sample_of finished_at ending_at in_arrays judged_line
judged-same text at j fair rest go continue bad E step = finished-same text at j go rest E
judged-same text at j fair rest go continue (good xs next e q) E step =
    rw (in-range j.n xs e fair.channels)
    (sample-same j (sample_in_range xs) (ltb (length j.dilutions) 256) (continue (record { numbers = sets (replicate 9 0) 0 xs; next = next }))
    (go xs)
    (λ t. step xs next e q (ltb-true _ _ t)))

-- The lines from a place on are read alike, with m lines at most left for samples.
abbrev Alike : ℕ → List ℕ → ℕ → Job → Type 0
Alike m text at j = Fair j → m + length j.dilutions ≡ 257 → samples_at m text at (in_arrays j) ≡ reading_of (job_after j (split 10 (drop at text)))

length_more : (m : ℕ) (j : Job) (xs : List ℕ) → suc m + length j.dilutions ≡ 257 → m + length (with_sample j xs).dilutions ≡ 257
unfolding with_sample
length_more m j xs h = simp length-append (omega arith)

alike-suc : (m : ℕ) (text : List ℕ) → ((at : ℕ) (j : Job) → Alike m text at j) → (at : ℕ) (j : Job) → Alike (suc m) text at j
unfolding samples_at in_arrays
alike-suc m text ih at j fair h =
    let ls = split 10 (drop at text) in
    judged-same text at j fair (tail ls) (λ xs. job_after (with_sample j xs) (tail ls))
    (λ line. samples_at m text line.next (kept (in_arrays j) line.numbers))
    (line_read text 83 refl refl j.n at)
    (line_read text 69 refl refl 0 at)
    (λ xs next e q k.
    ap (samples_at m text next) (kept_same j fair xs e k)
    ∙ ih next (with_sample j xs) (fair-more j fair xs e k) (length_more m j xs h)
    ∙ ap (λ (l : List (List ℕ)). reading_of (job_after (with_sample j xs) l)) q)
    ∙ sym (ap reading_of (after_is j ls))

alike : (m : ℕ) (text : List ℕ) (at : ℕ) (j : Job) → Alike m text at j
alike zero text at j fair h = absurd (omega (arith, fair.samples))
alike (suc m) text at j fair h = alike-suc m text (alike m text) at j fair h

-- ---- the whole text

lines_are : (ls : List (List ℕ)) → job_of_lines ls ≡ begun (line_in 80 3 ls) (tail ls)
unfolding job_of_lines begun line_in
lines_are [] = refl
lines_are (l ∷ []) = refl
lines_are (l ∷ part ∷ parts) = refl

few : (n limit tolerance : ℕ) → parameters_in_range n limit tolerance ≡ true → n ≤ 8
unfolding parameters_in_range
few n limit tolerance e = (is_within least_channels most_channels n
    (and_parts (within least_channels most_channels n) _
    (and_parts (within least_channels most_channels n && within least_sweeps most_sweeps limit) _ e).0).0).1

few-by : (t : Bool) (p q : Parameters) → (t ≡ true → p.n ≤ 8) → cond t (Ok p) (Err OutOfRange) ≡ Ok q → q.n ≤ 8
few-by true p q f e = let same : p.n ≡ q.n = cc in rw same at (f refl)
few-by false p q f e = let z : ◌≡◌ {A = ℕ} 0 9 = cc in omega arith

-- A first line that is read has at most 8 channels.
pub parameters-few : (text : List ℕ) (p : Parameters) → parameters_at text ≡ Ok p → p.n ≤ 8
unfolding parameters_at
parameters-few text p = go (line_at text 0 80 2)
  where
    go : (l : Found Line) → parameters_of l ≡ Ok p → p.n ≤ 8
    go (Some l) = unfold parameters_of in
        few-by (parameters_in_range (get_or l.numbers 0 0) (get_or l.numbers 1 0) (get_or l.numbers 2 0)) _ p
        (few (get_or l.numbers 0 0) (get_or l.numbers 1 0) (get_or l.numbers 2 0))
    go None = unfold parameters_of in λ e. let z : ◌≡◌ {A = ℕ} 0 9 = cc in omega arith

module _ (text : List ℕ) where
  none_yet : (next n limit tolerance : ℕ) (rest : List (List ℕ)) → split 10 (drop next text) ≡ rest → n ≤ 8 →
      samples_at 257 text next (new_job n limit tolerance) ≡ reading_of
      (job_after (record { n = n; limit = limit; tolerance = tolerance; dilutions = []; counts = [] }) rest)
  unfolding new_job in_arrays padded
  none_yet next n limit tolerance rest q h =
      let j : Job = record { n = n; limit = limit; tolerance = tolerance; dilutions = []; counts = [] } in
      alike 257 text next j (record { samples = lit≤ tt; channels = h; counted = sym (zero-mul n) }) refl
      ∙ ap (λ (l : List (List ℕ)). reading_of (job_after j l)) q

  -- By whether the parameters are in range: t.
  begun-same : (t : Bool) (n limit tolerance next : ℕ) (y : Answer) →
      (t ≡ true → samples_at 257 text next (new_job n limit tolerance) ≡ reading_of y) →
      reading_by text (cond t (Ok (record { n = n; limit = limit; tolerance = tolerance; next = next })) (Err OutOfRange)) ≡ reading_of
      (cond t y (refused 2 1))
  unfolding reading_by
  begun-same true n limit tolerance next y f = f refl
  begun-same false n limit tolerance next y f = refused-same 2 1

  first-same : (rest : List (List ℕ)) {L : Found Line} {o : Option (List ℕ)} → Reads text (replicate 9 0) 0 3 rest L o →
      reading_by text (parameters_of L) ≡ reading_of (begun o rest)
  unfolding parameters_of begun parameters_in_range
  first-same rest bad = unfold reading_by in refused-same 1 1
  first-same rest (good xs next e q) =
      rw (row_at xs 0 (omega arith) (omega arith), row_at xs 1 (omega arith) (omega arith), row_at xs 2 (omega arith) (omega arith))
      (begun-same (parameters_in_range (get_or xs 0 0) (get_or xs 1 0) (get_or xs 2 0)) (get_or xs 0 0) (get_or xs 1 0) (get_or xs 2 0) next _
      (λ t. none_yet next (get_or xs 0 0) (get_or xs 1 0) (get_or xs 2 0) rest q (few (get_or xs 0 0) (get_or xs 1 0) (get_or xs 2 0) t)))

pub read_same : (text : List ℕ) → reading_at text ≡ reading_of (job_of text)
unfolding reading_at parameters_at job_of
read_same text = first-same text (tail (split 10 text)) (line_read text 80 refl refl 2 0) ∙ sym (ap reading_of (lines_are (split 10 text)))
