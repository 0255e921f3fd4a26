-- Laws of the refusals of two jobs: their order, whatever else is wrong; and what is not refused.
use Rattle.std.specs.Prelude.{ℕ, ◌+◌, ◌<◌, ◌≤◌, ◌≡◌, refl, Bool, true, false, cond, ◌⊎◌, eqb, length}
use Rattle.std.proofs.Common.{arith, inl, inr}
use borrow.Author.Tests.{eq-eqb, le-leb, lt-leb, ne_eqb}
use Rattle.std.proofs.Math.Dec.{eqb→eq, leb→le}
use Rattle.job.specs.Job.{Job}
use Rattle.job.specs.Values.{Proper}
use Rattle.job_text.proofs.Writer.{proper-taken}
use Rattle.limits.specs.Limits.{most_samples}
use Rattle.limits.specs.Unless.{unless}
use Rattle.readings.specs.Ranges.{job_within}
use Rattle.readings.specs.Refusal.{are_counted, are_so_many, job_refusal, number_refusal}
use Rattle.refusal.specs.Refusal.{number_of, numbered}
use Rattle.limits.specs.laws.Unless.{neither, passed}
use Rattle.job_pool.specs.Refusal.{few_together, or_later, pool_refusal, refusal_for}

-- two jobs of the same channels, each one that W1's writer takes, with at most 256 samples together
pub record Poolable (a b : Job) : Type 0 where
  pub channels : a.n ≡ b.n
  pub first : refusal_for a ≡ 0
  pub second : refusal_for b ≡ 0
  pub together : length a.dilutions + length b.dilutions ≤ most_samples

-- 0, or the number of the refusal that has it
abbrev Known : ℕ → Type 0
Known number = (number ≡ 0) ⊎ (number_of (numbered number) ≡ number)

test : (b : Bool) (number later : ℕ) → Known number → Known later → Known (cond b later number)
test true number later n l = l
test false number later n l = n

job-known : (j : Job) → Known (refusal_for j)
unfolding job_refusal number_refusal
job-known j =
    test (job_within j.n j.limit j.tolerance j.dilutions j.counts) 2
    (unless (are_counted j.n j.dilutions j.counts) 6 (unless (are_so_many j.dilutions) 3 0)) (inr refl)
    (test (are_counted j.n j.dilutions j.counts) 6 (unless (are_so_many j.dilutions) 3 0) (inr refl)
    (test (are_so_many j.dilutions) 3 0 (inr refl) (inl refl)))

module _ (a b : Job) where
  -- 'Jobs with unequal channel numbers give 13, tried first'
  pub channels-first : (a.n ≡ b.n → ⊥) → pool_refusal a b ≡ 13
  unfolding pool_refusal
  channels-first f = rw (ne_eqb a.n b.n f)

  module _ (same : a.n ≡ b.n) where
    -- 'then 2, 6 and 3 as in W1, the first job before the second'
    pub first_then : (refusal_for a ≡ 0 → ⊥) → pool_refusal a b ≡ refusal_for a
    unfolding pool_refusal
    first_then f = rw (eq-eqb a.n b.n same, ne_eqb (refusal_for a) 0 f)

    module _ (first : refusal_for a ≡ 0) where
      pub second-then : (refusal_for b ≡ 0 → ⊥) → pool_refusal a b ≡ refusal_for b
      unfolding pool_refusal
      second-then f = rw (eq-eqb a.n b.n same, eq-eqb (refusal_for a) 0 first, ne_eqb (refusal_for b) 0 f)

      -- 'then more than 256 samples together give 3'
      pub together-last : refusal_for b ≡ 0 → most_samples < length a.dilutions + length b.dilutions → pool_refusal a b ≡ 3
      unfolding pool_refusal
      together-last second h =
          rw (eq-eqb a.n b.n same, eq-eqb (refusal_for a) 0 first, eq-eqb (refusal_for b) 0 second, lt-leb _ most_samples h)

  pub poolable-taken : Poolable a b → pool_refusal a b ≡ 0
  unfolding pool_refusal
  poolable-taken p =
      rw (
        eq-eqb a.n b.n p.channels,
        eq-eqb (refusal_for a) 0 p.first,
        eq-eqb (refusal_for b) 0 p.second,
        le-leb _ most_samples p.together,
      )

  pub taken-poolable : pool_refusal a b ≡ 0 → Poolable a b
  unfolding pool_refusal
  taken-poolable e =
      let later = unless (few_together a b) 3 0 in
      let channels = passed (eqb a.n b.n) 13 (or_later (refusal_for a) (or_later (refusal_for b) later)) e (omega arith) in
      let first = neither (refusal_for a) (or_later (refusal_for b) later) channels.1 in
      let second = neither (refusal_for b) later first.1 in
      let together = passed (few_together a b) 3 0 second.1 (omega arith) in
      record { channels = eqb→eq _ _ channels.0; first = first.0; second = second.0; together = leb→le _ _ together.0 }

  -- it is a refusal's number, where the jobs are refused
  pub pool-known : (pool_refusal a b ≡ 0 → ⊥) → number_of (numbered (pool_refusal a b)) ≡ pool_refusal a b
  unfolding pool_refusal
  pool-known f =
      let together = unless (few_together a b) 3 0 in
      by (pool_refusal a b)
      (test (eqb a.n b.n) 13 (or_later (refusal_for a) (or_later (refusal_for b) together)) (inr refl)
      (test (eqb (refusal_for a) 0) (refusal_for a) (or_later (refusal_for b) together) (job-known a)
      (test (eqb (refusal_for b) 0) (refusal_for b) together (job-known b)
      (test (few_together a b) 3 0 (inr refl) (inl refl)))))
      f
    where
      by : (number : ℕ) → Known number → (number ≡ 0 → ⊥) → number_of (numbered number) ≡ number
      by number (inl e) f = absurd (f e)
      by number (inr e) f = e

  -- jobs that were read are taken each by itself: they are refused 13, or 3 for more than 256 samples together
  pub read-refusal : Proper a → Proper b → pool_refusal a b ≡ unless (eqb a.n b.n) 13 (unless (few_together a b) 3 0)
  unfolding pool_refusal
  read-refusal p q = rw (eq-eqb (refusal_for a) 0 (proper-taken a p), eq-eqb (refusal_for b) 0 (proper-taken b q))
