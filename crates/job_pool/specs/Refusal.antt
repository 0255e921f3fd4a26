-- Two jobs handed over to be pooled: the number that they are refused with, or 0 where they are taken. Document 02, W6: 'Jobs with unequal channel
-- numbers give 13, tried first; then 2, 6 and 3 as in W1, the first job before the second; then more than 256 samples together give 3'.
use Rattle.std.specs.Prelude.{ℕ, ◌+◌, Bool, cond, eqb, leb, length}
use Rattle.job.specs.Job.{Job}
use Rattle.limits.specs.Limits.{most_samples}
use Rattle.limits.specs.Unless.{unless}
use Rattle.readings.specs.Refusal.{job_refusal}

-- the refusal of what is tried first; where there is none, what the later tests say
abbrev pub or_later : ℕ → ℕ → ℕ
or_later first later = cond (eqb first 0) later first

-- '2, 6 and 3 as in W1', of one job
abbrev pub refusal_for : Job → ℕ
refusal_for j = job_refusal j.n j.limit j.tolerance j.dilutions j.counts

-- not 'more than 256 samples together'
abbrev pub few_together : Job → Job → Bool
few_together a b = leb (length a.dilutions + length b.dilutions) most_samples

unfoldable pub pool_refusal : Job → Job → ℕ
pool_refusal a b = unless (eqb a.n b.n) 13 (or_later (refusal_for a) (or_later (refusal_for b) (unless (few_together a b) 3 0)))
