-- The S lines of samples handed over one list after another are those of the first list, and then those of the second.
use Rattle.std.specs.Prelude.{ℕ, ◌*◌, ◌≡◌, List, ◌∷◌, ◌++◌, map, pos, length}
use Rattle.std.proofs.Common.{ap, ap₂, ◌∙◌, length-append}
use Rattle.readings.specs.Samples.{Sample}
use Rattle.readings.specs.laws.Joined.{sample-after, sample-before}
use Rattle.text.specs.Line.{number_line}
use Rattle.text.specs.Lines.{lines}
use Rattle.text.specs.laws.Lines.{lines-append, lines_same}
use Rattle.job_text.specs.JobText.{sample_line, sample_numbers}

pub sample-lines-append : (n : ℕ) (dilutions counts : List ℕ) → length counts ≡ n * length dilutions → (later-dilutions later-counts : List ℕ) →
    lines (sample_line n (dilutions ++ later-dilutions) (counts ++ later-counts)) (length (dilutions ++ later-dilutions)) ≡
    lines (sample_line n dilutions counts) (length dilutions) ++ lines (sample_line n later-dilutions later-counts) (length later-dilutions)
unfolding sample_line sample_numbers
sample-lines-append n dilutions counts counted later-dilutions later-counts =
    let line_for : Sample → List ℕ = λ r. number_line 83 (map pos (r.dilution ∷ r.counts)) in
    rw length-append
    (lines-append (length dilutions) (length later-dilutions) _
    ∙ ap₂ ◌++◌
    (lines_same (length dilutions) _ _ (λ s h. ap line_for (sample-before n dilutions counts counted later-dilutions later-counts s h)))
    (lines_same (length later-dilutions) _ _ (λ s h. ap line_for (sample-after n dilutions counts counted later-dilutions later-counts s))))
