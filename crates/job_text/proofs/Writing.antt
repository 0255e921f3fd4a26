-- What is written for the job of an accepted text is that text, and that job is proper.
use Prim.Native.Nat.{ℕ, suc, ◌+◌, ◌*◌, ◌<◌, ◌≤◌}
use mathlib.Core.Path.{◌≡◌, refl, sym, ap, ◌∙◌}
use mathlib.Core.Bool.{Bool, true, false, cond, ◌&&◌}
use mathlib.Core.List.{List, [], ◌∷◌, ◌++◌, map, append_assoc, append-nil}
use mathlib.Core.Option.{Option, none, some}
use native.Mathlib.Nat.{mul-zero, mul-le-mul_left}
use native.Mathlib.Omega.{arith}
use borrow.Author.Tests.{eqb-true}
use lib.Dec.{eqb, ltb}
use lib.IntN.{pos}
use lib.ListN.{length, get_or, drop, length-append, length-drop, get_or-append}
use lib.Seq.{drop-append-le, drop_at, get_or_at, take_all, take-append-le}
use Rattle.std.proofs.lemmas.Bool.{and_parts}
use Rattle.text.specs.Parts.{split}
use Rattle.text.specs.laws.Split.{joined, joined-split}
use Rattle.text.specs.Line.{number_line}
use Rattle.text.specs.Lines.{lines}
use Rattle.text.specs.laws.Lines.{lines_more, lines_same}
use Rattle.readings.specs.Ranges.{parameters_in_range}
use Rattle.job.specs.Range.{sample_in_range}
use Rattle.job.specs.Text.{line_of}
use Rattle.readings.specs.Samples.{sample_at}
use Rattle.job.specs.Job.{Answer, Job, accepted, job_after, begun, ended, job_of, job_of_lines, judged_line, next_line, nothing, refused, with_sample}
use Rattle.job.proofs.Accepted.{accepted-proper}
use Rattle.job_text.specs.JobText.{ReadIsProper, WritesBack, job_text_of, job_line_e, job_line_p, job_line_s, sample_line, sample_numbers}
use Rattle.job_text.proofs.Fields.{Line, line-written}
use Rattle.job_text.proofs.Sample.{job_numbers}

-- The lines of a job before `E`
abbrev begin : Job → List ℕ
begin j = job_line_p j ++ lines (job_line_s j) (length j.dilutions)

-- n counts to each sample
abbrev Counted : Job → Type 0
Counted j = length j.counts ≡ j.n * length j.dilutions

-- ---- one sample more

module _ (j : Job) (counted : Counted j) (xs : List ℕ) (size : length xs ≡ suc j.n) where
  counted-more : Counted (with_sample j xs)
  unfolding with_sample
  counted-more = simp length-append (omega (arith, length-drop 1 xs))

  -- the samples before it
  before : (i : ℕ) → i < length j.dilutions → job_numbers (with_sample j xs) i ≡ job_numbers j i
  unfolding with_sample sample_numbers sample_at
  before i h =
      let below : j.n * suc i ≤ j.n * length j.dilutions = mul-le-mul_left j.n h in
      let room : j.n ≤ length (drop (j.n * i) j.counts) = rw length-drop (omega arith) in
      rw (get_or-append j.dilutions (get_or xs 0 0 ∷ []) 0 i h)
      (rw (drop-append-le (j.n * i) j.counts (drop 1 xs) (omega arith), take-append-le j.n _ (drop 1 xs) room))

  whole : (ys : List ℕ) → length ys ≡ suc j.n → get_or ys 0 0 ∷ drop 1 ys ≡ ys
  whole [] e = absurd (omega arith)
  whole (y ∷ ys) e = refl

  -- the sample itself
  last : job_numbers (with_sample j xs) (length j.dilutions) ≡ xs
  unfolding with_sample sample_numbers sample_at
  last =
      let few : length (drop 1 xs) ≤ j.n = omega (arith, length-drop 1 xs) in
      rw (get_or_at j.dilutions (get_or xs 0 0) [] 0 (length j.dilutions) refl)
      (rw (drop_at j.counts (drop 1 xs) (j.n * length j.dilutions) counted, take_all j.n (drop 1 xs) few) (whole xs size))

  samples-more : (k : ℕ) → k ≡ length j.dilutions + 1
      → lines (job_line_s (with_sample j xs)) k ≡ lines (job_line_s j) (length j.dilutions) ++ number_line 83 (map pos xs)
  unfolding sample_line with_sample
  samples-more k e =
      let same = lines_same (length j.dilutions) (job_line_s (with_sample j xs)) (job_line_s j)
      (λ i h. ap (λ l. number_line 83 (map pos l)) (before i h)) in
      ap (lines (job_line_s (with_sample j xs))) e ∙ lines_more (job_line_s (with_sample j xs)) (length j.dilutions) ∙ rw (same, last)

  begin-more : begin (with_sample j xs) ≡ begin j ++ number_line 83 (map pos xs)
  unfolding job_line_p with_sample
  begin-more = ap (λ l. job_line_p j ++ l) (samples-more _ (length-append j.dilutions (get_or xs 0 0 ∷ []))) ∙ sym (append_assoc (job_line_p j) _ _)

-- ---- the lines of an accepted text

-- A line and what follows it
line-joined : (line part : List ℕ) (parts : List (List ℕ)) → joined 10 (line ∷ part ∷ parts) ≡ (line ++ (10 ∷ [])) ++ joined 10 (part ∷ parts)
line-joined line part parts = sym (append_assoc line (10 ∷ []) (joined 10 (part ∷ parts)))

nothing-joined : (rest : List (List ℕ)) → nothing rest ≡ true → joined 10 rest ≡ []
unfolding nothing
nothing-joined [] e = refl
nothing-joined ([] ∷ []) e = refl
nothing-joined ([] ∷ part ∷ rest) e = absurd (omega (arith, eqb-true (suc (length rest)) 0 e))
nothing-joined ((b ∷ bs) ∷ rest) e =
    let z = and_parts (eqb (suc (length bs)) 0) (eqb (length rest) 0) e in
    absurd (omega (arith, eqb-true (suc (length bs)) 0 z.0))

one : (xs : List ℕ) (k : ℕ) → length xs ≡ 1 → get_or xs 0 0 ≡ k → xs ≡ k ∷ []
one [] k e g = absurd (omega arith)
one (x ∷ []) k e g = rw g
one (x ∷ y ∷ ys) k e g = absurd (omega arith)

three : (xs : List ℕ) → length xs ≡ 3 → get_or xs 0 0 ∷ get_or xs 1 0 ∷ get_or xs 2 0 ∷ [] ≡ xs
three [] e = absurd (omega arith)
three (x ∷ []) e = absurd (omega arith)
three (x ∷ y ∷ []) e = absurd (omega arith)
three (x ∷ y ∷ z ∷ []) e = refl
three (x ∷ y ∷ z ∷ w ∷ ws) e = absurd (omega arith)

-- The text of a job whose last line is this one
last_written : (j : Job) (line part : List ℕ) (parts : List (List ℕ)) (xs : List ℕ)
    → Line 69 1 line xs → get_or xs 0 0 ≡ length j.dilutions → nothing (part ∷ parts) ≡ true
    → job_text_of j ≡ begin j ++ joined 10 (line ∷ part ∷ parts)
unfolding job_text_of job_line_e
last_written j line part parts xs w e n =
    let end : joined 10 (line ∷ part ∷ parts) ≡ line ++ (10 ∷ []) =
    line-joined line part parts ∙ rw (nothing-joined (part ∷ parts) n) (append-nil _) in
    ap (λ l. begin j ++ number_line 69 (map pos l)) (sym (one xs (length j.dilutions) w.count e)) ∙ ap (λ l. begin j ++ l) (w.same ∙ sym end)

-- j' is the job that the text is accepted as.
module _ (j' : Job) where
  -- An answer that is accepted is not refused, so each test went the other way.
  refused-not : {A : Type 0} (number line : ℕ) → refused number line ≡ accepted j' → A
  refused-not number line e = let z : ◌≡◌ {A = ℕ} 0 1 = cc in absurd (omega arith)

  taken : (t : Bool) (a : Answer) (number line : ℕ) → cond t a (refused number line) ≡ accepted j' → (t ≡ true) × (a ≡ accepted j')
  taken true a number line e = (refl, e)
  taken false a number line e = refused-not number line e

  passed : (t : Bool) (a : Answer) (number line : ℕ) → cond t (refused number line) a ≡ accepted j' → a ≡ accepted j'
  passed true a number line e = refused-not number line e
  passed false a number line e = e

  -- The whole text, of which the lines of j are read, and these are left
  abbrev Whole : Job → List (List ℕ) → Type 0
  Whole j ls = job_text_of j' ≡ begin j ++ joined 10 ls

  module _ (j : Job) (counted : Counted j) (line part : List ℕ) (parts : List (List ℕ)) where
    sample-whole : (xs : List ℕ) → Line 83 (suc j.n) line xs → Whole (with_sample j xs) (part ∷ parts) → Whole j (line ∷ part ∷ parts)
    sample-whole xs w whole = whole ∙ rw (begin-more j counted xs w.count, w.same) (simp append_assoc)

    judged-whole : (o oE : Option (List ℕ))
        → ((xs : List ℕ) → o ≡ some xs → Line 83 (suc j.n) line xs) → ((xs : List ℕ) → oE ≡ some xs → Line 69 1 line xs)
        → (go : List ℕ → Answer) → ((xs : List ℕ) → length xs ≡ suc j.n → go xs ≡ accepted j' → Whole (with_sample j xs) (part ∷ parts))
        → judged_line j o oE (part ∷ parts) go ≡ accepted j' → Whole j (line ∷ part ∷ parts)
    unfolding judged_line ended
    judged-whole (some xs) oE s e go h q =
        let a = taken (sample_in_range xs) _ 2 (next_line j) q in
        let b = taken (ltb (length j.dilutions) 256) (go xs) 3 (next_line j) a.1 in
        sample-whole xs (s xs refl) (h xs (s xs refl).count b.1)
    judged-whole none (some xs) s e go h q =
        let a = passed (ltb (length j.dilutions) 2) _ 3 (next_line j) q in
        let b = taken (eqb (get_or xs 0 0) (length j.dilutions) && nothing (part ∷ parts)) (accepted j) 4 (next_line j) a in
        let c = and_parts (eqb (get_or xs 0 0) (length j.dilutions)) (nothing (part ∷ parts)) b.0 in
        let same : j ≡ j' = let d = b.1 in cc in
        rw (← same) (last_written j line part parts xs (e xs refl) (eqb-true _ _ c.0) c.1)
    judged-whole none none s e go h q = refused-not 1 (next_line j) q

  after-whole : (ls : List (List ℕ)) (j : Job) → Counted j → job_after j ls ≡ accepted j' → Whole j ls
  unfolding job_after
  after-whole [] j counted e = refused-not 1 (next_line j) e
  after-whole (part ∷ []) j counted e = refused-not 1 (next_line j) e
  after-whole (line ∷ part ∷ parts) j counted e =
      judged-whole j counted line part parts (line_of 83 (suc j.n) line) (line_of 69 1 line)
      (line-written 83 (suc j.n) line) (line-written 69 1 line)
      (λ xs. job_after (with_sample j xs) (part ∷ parts)) (λ xs size. after-whole (part ∷ parts) (with_sample j xs)
      (counted-more j counted xs size)) e

  begun-whole : (line part : List ℕ) (parts : List (List ℕ)) (o : Option (List ℕ)) → ((xs : List ℕ) → o ≡ some xs → Line 80 3 line xs)
      → begun o (part ∷ parts) ≡ accepted j' → job_text_of j' ≡ joined 10 (line ∷ part ∷ parts)
  unfolding begun lines job_line_p
  begun-whole line part parts none p e = refused-not 1 1 e
  begun-whole line part parts (some xs) p e =
      let start : Job = record { n = get_or xs 0 0; limit = get_or xs 1 0; tolerance = get_or xs 2 0; dilutions = []; counts = [] } in
      let a = taken (parameters_in_range (get_or xs 0 0) (get_or xs 1 0) (get_or xs 2 0)) _ 2 1 e in
      let w = p xs refl in
      let first : job_line_p start ≡ line ++ (10 ∷ []) = ap (λ l. number_line 80 (map pos l)) (three xs w.count) ∙ w.same in
      after-whole (part ∷ parts) start (sym (mul-zero (get_or xs 0 0))) a.1 ∙ rw (append-nil, first) (sym (line-joined line part parts))

  lines-whole : (ls : List (List ℕ)) → job_of_lines ls ≡ accepted j' → job_text_of j' ≡ joined 10 ls
  unfolding job_of_lines
  lines-whole [] e = refused-not 1 1 e
  lines-whole (part ∷ []) e = refused-not 1 1 e
  lines-whole (line ∷ part ∷ parts) e = begun-whole line part parts (line_of 80 3 line) (line-written 80 3 line) e

pub writes-back : WritesBack
unfolding job_of
writes-back text j e = lines-whole j (split 10 text) e ∙ joined-split 10 text

pub read-is-proper : ReadIsProper
read-is-proper = accepted-proper
