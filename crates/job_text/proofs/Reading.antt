-- What is written for a proper job is read as that job.
use Prim.Native.Nat.{ℕ, zero, suc, ◌*◌, ◌<◌, ◌≤◌}
use mathlib.Core.Path.{◌≡◌, refl, ap, ◌∙◌}
use mathlib.Core.Bool.{true}
use mathlib.Core.List.{List, [], ◌∷◌, ◌++◌, append_assoc, append-nil}
use mathlib.Core.Option.{none, some}
use native.Mathlib.Nat.{mul-zero, mul-suc, mul_comm, le_refl}
use native.Mathlib.Omega.{arith}
use borrow.Author.Tests.{lt-ltb, le-ltb, eq-eqb}
use lib.ListN.{length, take}
use lib.Seq.{length-take-le, take-add, take_all, take-length, take-suc}
use Rattle.text.specs.Parts.{split}
use Rattle.text.specs.Lines.{lines}
use Rattle.job.specs.Range.{sample_in_range}
use Rattle.job.specs.Text.{line_of}
use Rattle.readings.specs.Samples.{sample_at}
use Rattle.job.specs.Job.{Job, accepted, job_after, begun, ended, job_of, job_of_lines, judged_line, nothing, with_sample}
use Rattle.job.specs.Values.{Proper}
use Rattle.job.specs.laws.Proper.{channels, limit-most, number, ranges, tolerance-most}
use Rattle.job_text.specs.JobText.{ReadsBack, job_text_of, job_line_e, job_line_p, job_line_s, sample_line, sample_numbers}
use Rattle.job_text.proofs.Fields.{Short, bare, line_other, line-parts, line_read}
use Rattle.job_text.proofs.Sample.{job_numbers, numbers-count, numbers-short, numbers-within}

-- ---- one line of a text

after-sample : (j : Job) (line part : List ℕ) (parts : List (List ℕ)) (xs : List ℕ)
    → line_of 83 (suc j.n) line ≡ some xs → sample_in_range xs ≡ true → length j.dilutions < 256
    → job_after j (line ∷ part ∷ parts) ≡ job_after (with_sample j xs) (part ∷ parts)
unfolding job_after judged_line
after-sample j line part parts xs e r h = rw e (simp (r, lt-ltb _ _ h))

after-end : (j : Job) (line : List ℕ) → line_of 83 (suc j.n) line ≡ none → line_of 69 1 line ≡ some (length j.dilutions ∷ [])
    → 2 ≤ length j.dilutions → job_after j (line ∷ [] ∷ []) ≡ accepted j
unfolding job_after judged_line ended nothing
after-end j line e g h = rw (e, g) (simp (le-ltb _ _ h, eq-eqb (length j.dilutions) (length j.dilutions) refl))

-- ---- the lines of a proper job

-- The job with the first i of its samples
abbrev first : Job → ℕ → Job
first j i =
    record {
      n = j.n;
      limit = j.limit;
      tolerance = j.tolerance;
      dilutions = take i j.dilutions;
      counts = take (j.n * i) j.counts;
    }

module _ (j : Job) where
  first_more : (i : ℕ) → i < length j.dilutions → with_sample (first j i) (job_numbers j i) ≡ first j (suc i)
  unfolding with_sample sample_numbers sample_at
  first_more i h = rw (take-suc j.dilutions i 0 h, mul-suc, take-add)

  first-all : Proper j → first j (length j.dilutions) ≡ j
  first-all p =
      let all : length j.counts ≤ j.n * length j.dilutions = rw (p.counted, mul_comm (length j.dilutions) j.n) (le_refl _) in
      rw (take-length, take_all _ j.counts all)

module _ (j : Job) (p : Proper j) where
  parameters-short : Short (j.n ∷ j.limit ∷ j.tolerance ∷ [])
  parameters-short zero = omega (arith, (channels j p).1)
  parameters-short (suc zero) = omega (arith, limit-most j p)
  parameters-short (suc (suc zero)) = omega (arith, tolerance-most j p)
  parameters-short (suc (suc (suc m))) = omega arith

  -- What follows the line `P`
  first_read : (rest part : List ℕ) (parts : List (List ℕ)) → split 10 rest ≡ part ∷ parts
      → job_of (job_line_p j ++ rest) ≡ job_after (first j 0) (part ∷ parts)
  unfolding job_line_p job_of job_of_lines begun
  first_read rest part parts e =
      let xs = j.n ∷ j.limit ∷ j.tolerance ∷ [] in
      rw (line-parts 80 (omega arith) xs rest, e, line_read 80 (omega arith) xs parameters-short, mul-zero) (simp (ranges j p).0)

  -- and the lines of the first i samples
  samples-read : (i : ℕ) → i ≤ length j.dilutions → (rest part : List ℕ) (parts : List (List ℕ)) → split 10 rest ≡ part ∷ parts
      → job_of (job_line_p j ++ lines (job_line_s j) i ++ rest) ≡ job_after (first j i) (part ∷ parts)
  unfolding lines sample_line
  samples-read zero h rest part parts e = rw append-nil (first_read rest part parts e)
  samples-read (suc i) h rest part parts e =
      let xs = job_numbers j i in
      let text : job_line_p j ++ (lines (job_line_s j) i ++ job_line_s j i) ++ rest ≡ job_line_p j ++ lines (job_line_s j) i ++
      (job_line_s j i ++ rest) =
      simp append_assoc in
      let lines : split 10 (job_line_s j i ++ rest) ≡ bare 83 xs ∷ part ∷ parts = line-parts 83 (omega arith) xs rest ∙ ap (λ l. bare 83 xs ∷ l) e in
      let read : line_of 83 (suc j.n) (bare 83 xs) ≡ some xs =
      rw (← numbers-count j p i h) (line_read 83 (omega arith) xs (numbers-short j p i)) in
      let room : length (take i j.dilutions) < 256 = rw (length-take-le i j.dilutions (omega arith)) (omega (arith, (number j p).1)) in
      ap job_of text
      ∙ samples-read i (omega arith) (job_line_s j i ++ rest) (bare 83 xs) (part ∷ parts) lines
      ∙ after-sample (first j i) (bare 83 xs) part parts xs read (numbers-within j p i h) room
      ∙ ap (λ k. job_after k (part ∷ parts)) (first_more j i h)

  number_short : Short (length j.dilutions ∷ [])
  number_short zero = omega (arith, (number j p).1)
  number_short (suc m) = omega arith

  -- The line `E`
  last-read : job_after j (bare 69 (length j.dilutions ∷ []) ∷ [] ∷ []) ≡ accepted j
  last-read =
      let xs = length j.dilutions ∷ [] in
      let other = line_other 69 (omega arith) 83 (suc j.n) xs (λ (e : 69 ≡ 83). omega arith) in
      after-end j (bare 69 xs) other (line_read 69 (omega arith) xs number_short) (number j p).0

pub reads-back : ReadsBack
unfolding job_text_of job_line_e split
reads-back j p =
    let k = length j.dilutions in
    let parts : split 10 (job_line_e j) ≡ bare 69 (k ∷ []) ∷ [] ∷ [] = rw (← append-nil (job_line_e j)) (line-parts 69 (omega arith) (k ∷ []) []) in
    samples-read j p k (le_refl k) (job_line_e j) (bare 69 (k ∷ [])) ([] ∷ []) parts ∙ rw (first-all j p) (last-read j p)
