-- The job that a text holds, or its refusal: document 01, "Job text and report", refusals 1 to 4 and their order.
use Rattle.std.specs.Prelude.{ℕ, suc, ◌+◌, Bool, true, cond, ◌&&◌, List, [], ◌∷◌, ◌++◌, ltb, eqb, length, get_or, drop}
use Rattle.std.proofs.Math.Option.{Option, none, some}
use Rattle.text.specs.Parts.{split}
use Rattle.readings.specs.Ranges.{parameters_in_range}
use Rattle.job.specs.Range.{sample_in_range}
use Rattle.job.specs.Text.{line_of}
use Rattle.limits.specs.Limits.{least_samples, most_samples}

-- Sample after sample: a dilution each, and n counts each.
pub record Job : Type 0 where
  pub n : ℕ
  pub limit : ℕ
  pub tolerance : ℕ
  pub dilutions : List ℕ
  pub counts : List ℕ

-- A refusal has its number and the line.
pub data Answer : Type 0 where
  refused : ℕ → ℕ → Answer
  accepted : Job → Answer

unfoldable pub with_sample : Job → List ℕ → Job
with_sample j xs =
    record { n = j.n; limit = j.limit; tolerance = j.tolerance; dilutions = j.dilutions ++ (get_or xs 0 0 ∷ []); counts = j.counts ++ drop 1 xs }

-- The line after those of `P` and of the samples of j.
unfoldable pub next_line : Job → ℕ
next_line j = length j.dilutions + 2

unfoldable pub nothing : List (List ℕ) → Bool
nothing [] = true
nothing (part ∷ parts) = eqb (length part) 0 && eqb (length parts) 0

-- The line `E` and its number x, where `rest` follows: refusal 3, then 4.
unfoldable pub ended : Job → ℕ → List (List ℕ) → Answer
ended j x rest =
    cond (ltb (length j.dilutions) least_samples) (refused 3 (next_line j))
    (cond (eqb x (length j.dilutions) && nothing rest) (accepted j) (refused 4 (next_line j)))

-- A line after the first, by what it is as an `S` line and as an `E` line: refusal 1, then 2, then 3, then 4.
unfoldable pub judged_line : Job → Option (List ℕ) → Option (List ℕ) → List (List ℕ) → (List ℕ → Answer) → Answer
judged_line j (some xs) e rest go =
    cond (sample_in_range xs) (cond (ltb (length j.dilutions) most_samples) (go xs) (refused 3 (next_line j))) (refused 2 (next_line j))
judged_line j none (some xs) rest go = ended j (get_or xs 0 0) rest
judged_line j none none rest go = refused 1 (next_line j)

-- The lines after those of `P` and of the samples of j. The last part has no line feed after it. 83 is `S`, and 69 is `E`.
unfoldable pub job_after : Job → List (List ℕ) → Answer
job_after j [] = refused 1 (next_line j)
job_after j (part ∷ []) = refused 1 (next_line j)
job_after j (line ∷ part ∷ parts) =
    judged_line j (line_of 83 (suc j.n) line) (line_of 69 1 line) (part ∷ parts) (λ xs. job_after (with_sample j xs) (part ∷ parts))

unfoldable pub begun : Option (List ℕ) → List (List ℕ) → Answer
begun none rest = refused 1 1
begun (some xs) rest =
    cond (parameters_in_range (get_or xs 0 0) (get_or xs 1 0) (get_or xs 2 0))
    (job_after (record { n = get_or xs 0 0; limit = get_or xs 1 0; tolerance = get_or xs 2 0; dilutions = []; counts = [] }) rest)
    (refused 2 1)

-- 80 is `P`.
unfoldable pub job_of_lines : List (List ℕ) → Answer
job_of_lines [] = refused 1 1
job_of_lines (part ∷ []) = refused 1 1
job_of_lines (line ∷ part ∷ parts) = begun (line_of 80 3 line) (part ∷ parts)

-- "Each line ended by a line feed."
unfoldable pub job_of : List ℕ → Answer
job_of text = job_of_lines (split 10 text)
