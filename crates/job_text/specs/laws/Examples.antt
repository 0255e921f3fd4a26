-- Worked example: the text of document 01's printed job.
use Rattle.std.specs.Prelude.{◌≡◌, refl, [], ◌∷◌}
use Rattle.text.specs.Decimal.{digits, digits_by, number}
use Rattle.text.specs.Line.{further, line, number_line}
use Rattle.text.specs.Lines.{lines}
use Rattle.readings.specs.Samples.{sample_at}
use Rattle.job_text.specs.JobText.{job_text_of, job_line_e, job_line_p, sample_line, sample_numbers}

-- `P 2 1 0`, `S 1 0 0`, `S 5 1 0`, `S 1 5 5`, `E 3`, with tabs for blanks
printed : job_text_of (record { n = 2; limit = 1; tolerance = 0; dilutions = 1 ∷ 5 ∷ 1 ∷ []; counts = 0 ∷ 0 ∷ 1 ∷ 0 ∷ 5 ∷ 5 ∷ [] })
    ≡ 80 ∷ 9 ∷ 50 ∷ 9 ∷ 49 ∷ 9 ∷ 48 ∷ 10 ∷ 83 ∷ 9 ∷ 49 ∷ 9 ∷ 48 ∷ 9 ∷ 48 ∷ 10 ∷ 83 ∷ 9 ∷ 53 ∷ 9 ∷ 49 ∷ 9 ∷ 48 ∷ 10
    ∷ 83 ∷ 9 ∷ 49 ∷ 9 ∷ 53 ∷ 9 ∷ 53 ∷ 10 ∷ 69 ∷ 9 ∷ 51 ∷ 10 ∷ []
unfolding job_text_of job_line_p sample_line job_line_e sample_numbers sample_at lines number_line line further number digits digits_by
printed = refl
