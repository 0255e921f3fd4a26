-- The text of a job, as a writer writes it: document 01, "Job text and report"; and what is promised of it. `proofs/` has the proofs.
use Rattle.std.specs.Prelude.{ℕ, ◌<◌, ◌≤◌, ◌≡◌, List, [], ◌∷◌, ◌++◌, map, pos, length}
use Rattle.limits.specs.Limits.{most_bytes}
use Rattle.text.specs.Line.{number_line}
use Rattle.text.specs.Lines.{lines}
use Rattle.readings.specs.Samples.{sample_at}
use Rattle.job.specs.Job.{Job, accepted, job_of}
use Rattle.job.specs.Values.{Proper}

-- "`P` n (2..8), sweep limit (1..16), tolerance t in units (0..1,048,576)." 80 is `P`.
unfoldable pub job_line_p : Job → List ℕ
job_line_p j = number_line 80 (map pos (j.n ∷ j.limit ∷ j.tolerance ∷ []))

-- "dilution (1..100) and n counts (0..65,535)", of sample i. Samples count from 0 here.
unfoldable pub sample_numbers : ℕ → List ℕ → List ℕ → ℕ → List ℕ
sample_numbers n dilutions counts i = let s = sample_at n dilutions counts i in s.dilution ∷ s.counts

-- 83 is `S`.
unfoldable pub sample_line : ℕ → List ℕ → List ℕ → ℕ → List ℕ
sample_line n dilutions counts i = number_line 83 (map pos (sample_numbers n dilutions counts i))

abbrev pub job_line_s : Job → ℕ → List ℕ
job_line_s j = sample_line j.n j.dilutions j.counts

-- "Last, `E` with their number". 69 is `E`.
unfoldable pub job_line_e : Job → List ℕ
job_line_e j = number_line 69 (map pos (length j.dilutions ∷ []))

unfoldable pub job_text_of : Job → List ℕ
job_text_of j = job_line_p j ++ lines (job_line_s j) (length j.dilutions) ++ job_line_e j

-- 'a writer that takes n, the sweep limit, the tolerance and the samples': the job of these values
abbrev pub job_with : ℕ → ℕ → ℕ → List ℕ → List ℕ → Job
job_with n limit tolerance dilutions counts = record { n = n; limit = limit; tolerance = tolerance; dilutions = dilutions; counts = counts }

-- 'Reading that text yields those same values'. A proper job has values in their ranges, 2 to 256 samples and n counts to each.
abbrev pub ReadsBack : Type 0
ReadsBack = (j : Job) → Proper j → job_of (job_text_of j) ≡ accepted j

-- 'and writing what was read from an accepted text yields that text.'
abbrev pub WritesBack : Type 0
WritesBack = (text : List ℕ) (j : Job) → job_of text ≡ accepted j → job_text_of j ≡ text

-- What was read from an accepted text is proper.
abbrev pub ReadIsProper : Type 0
ReadIsProper = (text : List ℕ) (j : Job) → job_of text ≡ accepted j → Proper j

-- The bytes of the longest text: 15 of `P`, 54 of each of 256 lines `S`, and 6 of `E`.
abbrev pub longest : ℕ
longest = 13845

-- "The program `axes` reads at most 16,384 bytes of standard input": more than any text that a writer writes.
pub record Longest : Type 0 where
  pub most : (j : Job) → Proper j → length (job_text_of j) ≤ longest
  pub reached : (j : Job) × Proper j × (length (job_text_of j) ≡ longest)
  pub below : longest < most_bytes
