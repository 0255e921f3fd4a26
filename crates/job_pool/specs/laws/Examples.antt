-- Worked examples: refusals of two jobs with more than one cause, of which the first in W6's order is given; and the pooled job of two small ones.
use Rattle.std.specs.Prelude.{ℕ, ◌≡◌, refl, [], ◌∷◌, None, Some, true, false, replicate}
use Rattle.integer.specs.Within.{all_within, within}
use Rattle.job.specs.Job.{Job}
use Rattle.job_text.specs.JobText.{job_line_e, job_line_p, job_text_of, job_with, sample_line, sample_numbers}
use Rattle.readings.specs.Ranges.{parameters_in_range}
use Rattle.readings.specs.Refusal.{job_refusal, number_refusal}
use Rattle.readings.specs.Samples.{sample_at}
use Rattle.text.specs.Decimal.{digits, digits_by, number}
use Rattle.text.specs.Line.{further, line, number_line}
use Rattle.text.specs.Lines.{lines}
use Rattle.job_pool.specs.Arguments.{wrong_argument, wrong_argument_line}
use Rattle.job_pool.specs.Pooled.{joined_text, pooled_job}
use Rattle.job_pool.specs.Printed.{refused_job_line}
use Rattle.job_pool.specs.Refusal.{pool_refusal}

-- k equal samples on n channels
abbrev equal_samples : ℕ → ℕ → ℕ → Job
equal_samples n k counted = job_with n 16 0 (replicate k 1) (replicate counted 0)

refusals :
    -- 13: 2 and 3 channels, also where both jobs are wrong by themselves, and n = 9 with n = 2
    (pool_refusal (equal_samples 2 2 4) (equal_samples 3 2 6) ≡ 13)
    × (pool_refusal (job_with 2 17 0 [] []) (job_with 3 0 0 (1 ∷ []) (0 ∷ [])) ≡ 13)
    × (pool_refusal (equal_samples 9 2 18) (equal_samples 2 2 4) ≡ 13)
    -- the first job's refusal, whatever the second one's is: 6 and not 2, 3 and not 2; and its own limit and tolerance
    × (pool_refusal (equal_samples 2 2 3) (job_with 2 0 0 (1 ∷ 1 ∷ []) (0 ∷ 0 ∷ 0 ∷ 0 ∷ [])) ≡ 6)
    × (pool_refusal (equal_samples 2 1 2) (job_with 2 0 0 (1 ∷ 1 ∷ []) (0 ∷ 0 ∷ 0 ∷ 0 ∷ [])) ≡ 3)
    × (pool_refusal (job_with 2 17 0 (1 ∷ 1 ∷ []) (0 ∷ 0 ∷ 0 ∷ 0 ∷ [])) (equal_samples 2 2 3) ≡ 2)
    × (pool_refusal (equal_samples 9 2 18) (equal_samples 9 2 18) ≡ 2)
    -- the second one's: its own limit and tolerance are judged too, and one sample of its own is too few
    × (pool_refusal (equal_samples 2 2 4) (job_with 2 0 0 (1 ∷ 1 ∷ []) (0 ∷ 0 ∷ 0 ∷ 0 ∷ [])) ≡ 2)
    × (pool_refusal (equal_samples 2 2 4) (job_with 2 1 1_048_577 (1 ∷ 1 ∷ []) (0 ∷ 0 ∷ 0 ∷ 0 ∷ [])) ≡ 2)
    × (pool_refusal (equal_samples 2 2 4) (equal_samples 2 2 5) ≡ 6)
    × (pool_refusal (equal_samples 2 2 4) (equal_samples 2 1 2) ≡ 3)
    -- 257 samples together get 3, but 6 where the second one has a count too few; 256 are taken
    × (pool_refusal (equal_samples 2 2 4) (equal_samples 2 255 510) ≡ 3)
    × (pool_refusal (equal_samples 2 2 4) (equal_samples 2 255 509) ≡ 6)
    × (pool_refusal (equal_samples 2 2 4) (equal_samples 2 254 508) ≡ 0)
unfolding pool_refusal job_refusal number_refusal parameters_in_range all_within within
refusals = (refl, refl, refl, refl, refl, refl, refl, refl, refl, refl, refl, refl, refl, refl)

-- `P 2 1 0`, `S 1 0 0`, `S 5 1 0`, `E 2` and `P 2 16 5`, `S 2 1 3`, `S 1 0 4`, `E 2`, with tabs for blanks: the joined text is `P 2 1 0`, the four
-- S lines and `E 4`, and is the text of the pooled job
first : Job
first = job_with 2 1 0 (1 ∷ 5 ∷ []) (0 ∷ 0 ∷ 1 ∷ 0 ∷ [])

second : Job
second = job_with 2 16 5 (2 ∷ 1 ∷ []) (1 ∷ 3 ∷ 0 ∷ 4 ∷ [])

joined : (joined_text first second
    ≡ 80 ∷ 9 ∷ 50 ∷ 9 ∷ 49 ∷ 9 ∷ 48 ∷ 10 ∷ 83 ∷ 9 ∷ 49 ∷ 9 ∷ 48 ∷ 9 ∷ 48 ∷ 10 ∷ 83 ∷ 9 ∷ 53 ∷ 9 ∷ 49 ∷ 9 ∷ 48 ∷ 10
    ∷ 83 ∷ 9 ∷ 50 ∷ 9 ∷ 49 ∷ 9 ∷ 51 ∷ 10 ∷ 83 ∷ 9 ∷ 49 ∷ 9 ∷ 48 ∷ 9 ∷ 52 ∷ 10 ∷ 69 ∷ 9 ∷ 52 ∷ 10 ∷ [])
    × (job_text_of (pooled_job first second) ≡ joined_text first second)
unfolding first second joined_text job_text_of job_line_p sample_line job_line_e sample_numbers sample_at lines number_line line further number
    digits digits_by
joined = (refl, refl)

-- `X 13 0 0`, and `X 1 3 2` for line 3 of job 2, with tabs for blanks
printed : (refused_job_line 13 0 0 ≡ 88 ∷ 9 ∷ 49 ∷ 51 ∷ 9 ∷ 48 ∷ 9 ∷ 48 ∷ 10 ∷ []) ×
    (refused_job_line 1 3 2 ≡ 88 ∷ 9 ∷ 49 ∷ 9 ∷ 51 ∷ 9 ∷ 50 ∷ 10 ∷ [])
unfolding refused_job_line line further digits digits_by
printed = (refl, refl)

-- `? 2`
wrong-printed : wrong_argument_line 2 ≡ 63 ∷ 9 ∷ 50 ∷ 10 ∷ []
unfolding wrong_argument_line number_line line further number digits digits_by
wrong-printed = refl

-- the first argument that is wrong, whatever the later ones are; the program's name is the first of its words
arguments : (wrong_argument false false 1 ≡ Some 1) × (wrong_argument true false 4 ≡ Some 2) × (wrong_argument true true 4 ≡ Some 3) ×
    (wrong_argument true true 3 ≡ None)
unfolding wrong_argument
arguments = (refl, refl, refl, refl)
