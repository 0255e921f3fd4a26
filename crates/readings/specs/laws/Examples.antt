-- Worked examples of the refusals of samples handed over, with more than one cause each: the first in W1's order is given.
use Rattle.std.specs.Prelude.{◌≡◌, refl, [], ◌∷◌, replicate}
use Rattle.integer.specs.Within.{all_within, within}
use Rattle.readings.specs.Ranges.{parameters_in_range}
use Rattle.readings.specs.Refusal.{job_refusal, number_refusal, samples_refusal}

examples :
    -- 2: a count of 65,536 that no sample has; n = 0, 1 and 9; a dilution of 0, of 101; 257 samples with dilutions of 0 and no counts
    (samples_refusal 2 [] (65_536 ∷ []) ≡ 2)
    × (samples_refusal 0 [] [] ≡ 2)
    × (samples_refusal 1 [] [] ≡ 2)
    × (samples_refusal 9 [] [] ≡ 2)
    × (samples_refusal 2 (replicate 257 0) [] ≡ 2)
    × (samples_refusal 2 (0 ∷ []) [] ≡ 2)
    × (samples_refusal 2 (1 ∷ 101 ∷ []) (0 ∷ 0 ∷ 0 ∷ 0 ∷ []) ≡ 2)
    -- 6: one sample with one count of two; counts and no sample; 257 samples and no count
    × (samples_refusal 2 (1 ∷ []) (0 ∷ []) ≡ 6)
    × (samples_refusal 2 [] (0 ∷ 0 ∷ []) ≡ 6)
    × (samples_refusal 2 (replicate 257 1) [] ≡ 6)
    -- 3: no sample, one, 257 samples
    × (samples_refusal 2 [] [] ≡ 3)
    × (samples_refusal 2 (1 ∷ []) (0 ∷ 0 ∷ []) ≡ 3)
    × (samples_refusal 2 (replicate 257 1) (replicate 514 0) ≡ 3)
    -- two samples, and 256
    × (samples_refusal 2 (1 ∷ 100 ∷ []) (0 ∷ 65_535 ∷ 0 ∷ 0 ∷ []) ≡ 0)
    × (samples_refusal 8 (replicate 256 100) (replicate 2048 65_535) ≡ 0)
    -- a sweep limit of 0, of 17, a tolerance of 1,048,577: 2 also where the samples would get 6 or 3
    × (job_refusal 2 0 0 (1 ∷ []) (0 ∷ []) ≡ 2)
    × (job_refusal 2 17 0 [] [] ≡ 2)
    × (job_refusal 2 16 1_048_577 (1 ∷ 1 ∷ []) (0 ∷ 0 ∷ 0 ∷ 0 ∷ []) ≡ 2)
    × (job_refusal 2 16 1_048_576 (1 ∷ 1 ∷ []) (0 ∷ 0 ∷ 0 ∷ 0 ∷ []) ≡ 0)
unfolding samples_refusal job_refusal number_refusal parameters_in_range all_within within
examples = (refl, refl, refl, refl, refl, refl, refl, refl, refl, refl, refl, refl, refl, refl, refl, refl, refl, refl, refl)
