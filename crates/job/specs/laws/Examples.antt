-- Document 01's printed job, and texts for its refusals, as one theorem about the definitions. A text is written here with its bytes.
use Rattle.std.specs.Prelude.{ℕ, zero, suc, ◌≡◌, refl, List, [], ◌∷◌, ◌++◌}
use Rattle.text.specs.Numeral.{leading_zero, value_from}
use Rattle.text.specs.Parts.{onto, split, before}
use Rattle.integer.specs.Within.{within, all_within}
use Rattle.readings.specs.Ranges.{parameters_in_range}
use Rattle.job.specs.Range.{sample_in_range}
use Rattle.job.specs.Text.{number_in, numbers_of, is_tag, record_of, line_of}
use Rattle.job.specs.Job.{refused, accepted, with_sample, next_line, nothing, ended, judged_line, job_after, begun, job_of_lines, job_of}

-- `P 2 1 0`, with tabs for blanks here and below
abbrev p-line : List ℕ
p-line = 80 ∷ 9 ∷ 50 ∷ 9 ∷ 49 ∷ 9 ∷ 48 ∷ 10 ∷ []

-- `S 1 0 0`
abbrev s-line : List ℕ
s-line = 83 ∷ 9 ∷ 49 ∷ 9 ∷ 48 ∷ 9 ∷ 48 ∷ 10 ∷ []

-- `S 5 1 0` and `S 1 5 5`
abbrev s-lines : List ℕ
s-lines = 83 ∷ 9 ∷ 53 ∷ 9 ∷ 49 ∷ 9 ∷ 48 ∷ 10 ∷ 83 ∷ 9 ∷ 49 ∷ 9 ∷ 53 ∷ 9 ∷ 53 ∷ 10 ∷ []

-- `E` and a digit
abbrev e-line : ℕ → List ℕ
e-line digit = 69 ∷ 9 ∷ digit ∷ 10 ∷ []

abbrev sample_lines : List ℕ
sample_lines = s-line ++ s-lines

-- A line as often as said.
times : ℕ → List ℕ → List ℕ
times zero line = []
times (suc m) line = line ++ times m line

examples :
    -- the printed job: n = 2, limit 1, tolerance 0, three samples
    (job_of (p-line ++ sample_lines ++ e-line 51)
    ≡ accepted (record { n = 2; limit = 1; tolerance = 0; dilutions = 1 ∷ 5 ∷ 1 ∷ []; counts = 0 ∷ 0 ∷ 1 ∷ 0 ∷ 5 ∷ 5 ∷ [] }))
    -- 1: no line at all; no line after `P`; no line feed after `E 3`
    × (job_of [] ≡ refused 1 1)
    × (job_of p-line ≡ refused 1 2)
    × (job_of (p-line ++ sample_lines ++ 69 ∷ 9 ∷ 51 ∷ []) ≡ refused 1 5)
    -- 1: `S 1 0`, a field too few; `S 01 0 0`, a leading zero; `S 1 10000000 0`, eight digits; `S -1 0 0`, a sign; `X 1 0 0`, another tag
    × (job_of (p-line ++ 83 ∷ 9 ∷ 49 ∷ 9 ∷ 48 ∷ 10 ∷ []) ≡ refused 1 2)
    × (job_of (p-line ++ 83 ∷ 9 ∷ 48 ∷ 49 ∷ 9 ∷ 48 ∷ 9 ∷ 48 ∷ 10 ∷ []) ≡ refused 1 2)
    × (job_of (p-line ++ 83 ∷ 9 ∷ 49 ∷ 9 ∷ 49 ∷ 48 ∷ 48 ∷ 48 ∷ 48 ∷ 48 ∷ 48 ∷ 48 ∷ 9 ∷ 48 ∷ 10 ∷ []) ≡ refused 1 2)
    × (job_of (p-line ++ 83 ∷ 9 ∷ 45 ∷ 49 ∷ 9 ∷ 48 ∷ 9 ∷ 48 ∷ 10 ∷ []) ≡ refused 1 2)
    × (job_of (p-line ++ 88 ∷ 9 ∷ 49 ∷ 9 ∷ 48 ∷ 9 ∷ 48 ∷ 10 ∷ []) ≡ refused 1 2)
    -- 2: `P 9 1 0`; `S 0 0 0`. 1 before 2: `S 0 0 x`
    × (job_of (80 ∷ 9 ∷ 57 ∷ 9 ∷ 49 ∷ 9 ∷ 48 ∷ 10 ∷ []) ≡ refused 2 1)
    × (job_of (p-line ++ 83 ∷ 9 ∷ 48 ∷ 9 ∷ 48 ∷ 9 ∷ 48 ∷ 10 ∷ []) ≡ refused 2 2)
    × (job_of (p-line ++ 83 ∷ 9 ∷ 48 ∷ 9 ∷ 48 ∷ 9 ∷ 120 ∷ 10 ∷ []) ≡ refused 1 2)
    -- 3: `E` after one sample, also with a wrong number
    × (job_of (p-line ++ s-line ++ e-line 49) ≡ refused 3 3)
    × (job_of (p-line ++ s-line ++ e-line 50) ≡ refused 3 3)
    -- 3: a 257th sample, where 256 are taken
    × (job_of (p-line ++ times 256 s-line) ≡ refused 1 258)
    × (job_of (p-line ++ times 257 s-line) ≡ refused 3 258)
    -- 4: `E 2` after three samples; a byte after the line of `E 3`
    × (job_of (p-line ++ sample_lines ++ e-line 50) ≡ refused 4 5)
    × (job_of (p-line ++ sample_lines ++ e-line 51 ++ 10 ∷ []) ≡ refused 4 5)
unfolding times job_of split onto all_within leading_zero value_from number_in before numbers_of is_tag record_of line_of within parameters_in_range
    sample_in_range with_sample next_line nothing ended judged_line job_after begun job_of_lines
examples = (refl, refl, refl, refl, refl, refl, refl, refl, refl, refl, refl, refl, refl, refl, refl, refl, refl, refl)
