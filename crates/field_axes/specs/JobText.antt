-- Job text of what is handed over, and the refusals before it.
use Rattle.std.specs.Prelude.{ℕ, List, length}
use Rattle.readings.specs.Refusal.{job_refusal}
use Rattle.text.specs.Written.{or_short}
use Rattle.job_text.specs.JobText.{job_text_of, job_with}

abbrev pub text_for : ℕ → ℕ → ℕ → List ℕ → List ℕ → List ℕ
text_for n limit tolerance dilutions counts = job_text_of (job_with n limit tolerance dilutions counts)

-- 2, 6 and 3, then 12 for a buffer of fewer bytes
abbrev pub text_refusal : ℕ → ℕ → ℕ → List ℕ → List ℕ → ℕ → ℕ
text_refusal n limit tolerance dilutions counts size =
    or_short (job_refusal n limit tolerance dilutions counts) (length (text_for n limit tolerance dilutions counts)) size
