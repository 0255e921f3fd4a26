-- The job of an accepted text is proper: its values are in their ranges, and as many as document 01 says.
use Prim.Native.Nat.{ℕ, zero, suc, ◌*◌, ◌<◌, ◌≤◌}
use mathlib.Core.Path.{◌≡◌, refl, sym, ap}
use mathlib.Core.Bool.{Bool, true, false, cond, ◌&&◌}
use mathlib.Core.List.{List, [], ◌∷◌}
use mathlib.Core.Option.{Option, none, some}
use native.Mathlib.Nat.{zero-mul}
use native.Mathlib.Omega.{arith}
use borrow.Author.Tests.{ltb-true, ltb-false, le-leb}
use lib.Dec.{eqb, ltb, lit≤}
use lib.ListN.{length, get_or, drop, length-append, length-drop}
use Rattle.text.specs.Parts.{split, before}
use Rattle.std.proofs.lemmas.Bool.{and_parts}
use Rattle.integer.specs.laws.Within.{all_append}
use Rattle.integer.specs.Within.{within, all_within}
use Rattle.readings.specs.Ranges.{parameters_in_range}
use Rattle.job.specs.Range.{sample_in_range}
use Rattle.job.specs.Text.{number_in, numbers_of, is_tag, record_of, line_of}
use Rattle.job.specs.Job.{Job, Answer, refused, accepted, with_sample, next_line, nothing, ended, judged_line, job_after, begun, job_of_lines, job_of}
use Rattle.job.specs.Values.{in_range, Proper}

-- ---- a line that is one with this tag has c numbers

numbers-count : (c : ℕ) (fs : List (List ℕ)) (xs : List ℕ) → numbers_of c fs ≡ some xs → length xs ≡ c
unfolding numbers_of
numbers-count zero [] xs e = let q : [] ≡ xs = cc in rw (← q)
numbers-count zero (f ∷ fs) xs e = let z : ◌≡◌ {A = ℕ} 0 1 = cc in omega arith
numbers-count (suc c) [] xs e = let z : ◌≡◌ {A = ℕ} 0 1 = cc in omega arith
numbers-count (suc c) (f ∷ fs) xs e = one_more (number_in f) (numbers_of c fs) (numbers-count c fs) e
  where
    one_more : (o : Option ℕ) (os : Option (List ℕ)) → ((ys : List ℕ) → os ≡ some ys → length ys ≡ c) → before o os ≡ some xs → length xs ≡ suc c
    one_more none os h e = unfold before in (let z : ◌≡◌ {A = ℕ} 0 1 = cc in omega arith)
    one_more (some x) none h e = unfold before in (let z : ◌≡◌ {A = ℕ} 0 1 = cc in omega arith)
    one_more (some x) (some ys) h e = unfold before in (let q : x ∷ ys ≡ xs = cc in rw (← q) (ap suc (h ys refl)))

record-count : (tag c : ℕ) (fs : List (List ℕ)) (xs : List ℕ) → record_of tag c fs ≡ some xs → length xs ≡ c
unfolding record_of
record-count tag c [] xs e = let z : ◌≡◌ {A = ℕ} 0 1 = cc in omega arith
record-count tag c (f ∷ fs) xs e = by-tag (is_tag tag f) e
  where
    by-tag : (t : Bool) → cond t (numbers_of c fs) none ≡ some xs → length xs ≡ c
    by-tag true e = numbers-count c fs xs e
    by-tag false e = let z : ◌≡◌ {A = ℕ} 0 1 = cc in omega arith

line-count : (tag c : ℕ) (line : List ℕ) (xs : List ℕ) → line_of tag c line ≡ some xs → length xs ≡ c
unfolding line_of
line-count tag c line xs e = record-count tag c (split 9 line) xs e

-- ---- one sample more

all_one : (low high x : ℕ) → within low high x ≡ true → all_within low high (x ∷ []) ≡ true
unfolding all_within
all_one low high x p = simp p

sample-parts : (xs : List ℕ) → sample_in_range xs ≡ true → (within 1 100 (get_or xs 0 0) ≡ true) × (all_within 0 65535 (drop 1 xs) ≡ true)
unfolding sample_in_range
sample-parts xs r = and_parts (within 1 100 (get_or xs 0 0)) (all_within 0 65535 (drop 1 xs)) r

-- What holds of the job while its samples are read.
record Begun (j : Job) : Type 0 where
  parameters : parameters_in_range j.n j.limit j.tolerance ≡ true
  dilutions : all_within 1 100 j.dilutions ≡ true
  counts : all_within 0 65535 j.counts ≡ true
  few : length j.dilutions ≤ 256
  counted : length j.counts ≡ length j.dilutions * j.n

begun_more : (j : Job) → Begun j → (xs : List ℕ) → length xs ≡ suc j.n → sample_in_range xs ≡ true → length j.dilutions < 256 →
    Begun (with_sample j xs)
unfolding with_sample
begun_more j b xs e r k =
    let p = sample-parts xs r in
    record {
      parameters = b.parameters;
      dilutions = all_append 1 100 j.dilutions (get_or xs 0 0 ∷ []) b.dilutions (all_one 1 100 (get_or xs 0 0) p.0);
      counts = all_append 0 65535 j.counts (drop 1 xs) b.counts p.1;
      few = simp length-append (omega arith);
      counted = simp length-append (omega (arith, length-drop 1 xs, b.counted));
    }

proper : (j : Job) → Begun j → 2 ≤ length j.dilutions → Proper j
proper j b h =
    record {
      ranges = unfold in_range in simp (b.parameters, b.dilutions, b.counts);
      samples = unfold within in simp (le-leb 2 (length j.dilutions) h, le-leb (length j.dilutions) 256 b.few);
      counted = b.counted;
    }

-- ---- the lines

module _ (j' : Job) where
  not-refused : (number line : ℕ) → refused number line ≡ accepted j' → Proper j'
  not-refused number line e = let z : ◌≡◌ {A = ℕ} 0 1 = cc in absurd (omega arith)

  by_end : (j : Job) → Begun j → (line : ℕ) (a c : Bool) → (a ≡ false → 2 ≤ length j.dilutions) →
      cond a (refused 3 line) (cond c (accepted j) (refused 4 line)) ≡ accepted j' → Proper j'
  by_end j b line true c h e = not-refused 3 line e
  by_end j b line false true h e = let q : j ≡ j' = cc in rw q at (proper j b (h refl))
  by_end j b line false false h e = not-refused 4 line e

  by-sample : (line : ℕ) (a c : Bool) (x : Answer) → (a ≡ true → c ≡ true → x ≡ accepted j' → Proper j') →
      cond a (cond c x (refused 3 line)) (refused 2 line) ≡ accepted j' → Proper j'
  by-sample line true true x h e = h refl refl e
  by-sample line true false x h e = not-refused 3 line e
  by-sample line false c x h e = not-refused 2 line e

  judged-proper : (j : Job) → Begun j → (o oE : Option (List ℕ)) (rest : List (List ℕ)) (go : List ℕ → Answer) →
      ((xs : List ℕ) → o ≡ some xs → length xs ≡ suc j.n) → ((xs : List ℕ) → Begun (with_sample j xs) → go xs ≡ accepted j' → Proper j') →
      judged_line j o oE rest go ≡ accepted j' → Proper j'
  unfolding judged_line ended
  judged-proper j b (some xs) oE rest go c h e =
      by-sample (next_line j) (sample_in_range xs) (ltb (length j.dilutions) 256) (go xs)
      (λ r k. h xs (begun_more j b xs (c xs refl) r (ltb-true _ _ k))) e
  judged-proper j b none (some xs) rest go c h e =
      by_end j b (next_line j) (ltb (length j.dilutions) 2) (eqb (get_or xs 0 0) (length j.dilutions) && nothing rest) (ltb-false _ _) e
  judged-proper j b none none rest go c h e = not-refused 1 (next_line j) e

  after-proper : (ls : List (List ℕ)) (j : Job) → Begun j → job_after j ls ≡ accepted j' → Proper j'
  unfolding job_after
  after-proper [] j b e = not-refused 1 (next_line j) e
  after-proper (part ∷ []) j b e = not-refused 1 (next_line j) e
  after-proper (line ∷ part ∷ parts) j b e =
      judged-proper j b (line_of 83 (suc j.n) line) (line_of 69 1 line) (part ∷ parts) (λ xs. job_after (with_sample j xs) (part ∷ parts))
      (line-count 83 (suc j.n) line) (λ xs. after-proper (part ∷ parts) (with_sample j xs)) e

  begun-proper : (o : Option (List ℕ)) (rest : List (List ℕ)) → begun o rest ≡ accepted j' → Proper j'
  unfolding begun
  begun-proper none rest e = not-refused 1 1 e
  begun-proper (some xs) rest e = by-range (parameters_in_range (get_or xs 0 0) (get_or xs 1 0) (get_or xs 2 0)) refl e
    where
      start : Job
      start = record { n = get_or xs 0 0; limit = get_or xs 1 0; tolerance = get_or xs 2 0; dilutions = []; counts = [] }

      by-range : (t : Bool) → parameters_in_range (get_or xs 0 0) (get_or xs 1 0) (get_or xs 2 0) ≡ t →
          cond t (job_after start rest) (refused 2 1) ≡ accepted j' → Proper j'
      by-range true p e = after-proper rest start
          (record {
            parameters = p;
            dilutions = unfold all_within in refl;
            counts = unfold all_within in refl;
            few = lit≤ tt;
            counted = sym (zero-mul (get_or xs 0 0));
          }) e
      by-range false p e = not-refused 2 1 e

  lines-proper : (ls : List (List ℕ)) → job_of_lines ls ≡ accepted j' → Proper j'
  unfolding job_of_lines
  lines-proper [] e = not-refused 1 1 e
  lines-proper (part ∷ []) e = not-refused 1 1 e
  lines-proper (line ∷ part ∷ parts) e = begun-proper (line_of 80 3 line) (part ∷ parts) e

pub accepted-proper : (text : List ℕ) (j : Job) → job_of text ≡ accepted j → Proper j
unfolding job_of
accepted-proper text j e = lines-proper j (split 10 text) e
