-- `job_pool::check::check_pool` meets its contract: each test is one of the definition's, in its order.
use Prim.Native.Nat.{ℕ, ◌+◌, ◌<◌, ◌≤◌}
use mathlib.Core.Path.{◌≡◌, refl, sym}
use lib.ListN.{length}
use native.Mathlib.Omega.{arith}
use Rattle.std.specs.Prelude.{Ok, Err, Result}
use Rattle.std.proofs.lemmas.Result.{err_from_is_err_and}
use Rattle.job.specs.Job.{Job}
use Rattle.limits.specs.Limits.{most_samples}
use Rattle.refusal.specs.declared.Refusal.{Refusal}
use Rattle.refusal.specs.Refusal.{judged, numbered}
use Rattle.text.specs.laws.Written.{judged-refused, not-judged}
use Rattle.job_pool.specs.Refusal.{pool_refusal, refusal_for}
use Rattle.job_pool.specs.laws.Refusal.{channels-first, first_then, poolable-taken, second-then, together-last}
use Rattle.job_pool.proofs.check.check_pool.Goals as goal

abbrev checked : ℕ → Result (Unit {0}) Refusal
checked number = judged number (tt {0})

module _ (a b : Job) where
  unequal : (a.n ≡ b.n → ⊥) → Err (numbered 13) ≡ checked (pool_refusal a b)
  unfolding judged
  unequal h = rw (channels-first a b h)

  module _ (same : a.n ≡ b.n) where
    first-out : (k : Refusal) → Err k ≡ checked (refusal_for a) → Err k ≡ checked (pool_refusal a b)
    first-out k e = let j = judged-refused (refusal_for a) (tt {0}) k (sym e) in rw (first_then a b same j.0) e

    module _ (first : refusal_for a ≡ 0) where
      second-out : (k : Refusal) → Err k ≡ checked (refusal_for b) → Err k ≡ checked (pool_refusal a b)
      second-out k e = let j = judged-refused (refusal_for b) (tt {0}) k (sym e) in rw (second-then a b same first j.0) e

      module _ (second : refusal_for b ≡ 0) where
        many : most_samples < length a.dilutions + length b.dilutions → Err (numbered 3) ≡ checked (pool_refusal a b)
        unfolding judged
        many h = rw (together-last a b same first second h)

        taken : length a.dilutions + length b.dilutions ≤ most_samples → Ok (tt {0}) ≡ checked (pool_refusal a b)
        unfolding judged
        taken h = rw (poolable-taken a b (record { channels = same; first = first; second = second; together = h }))

pub returns-then-first-second : goal.returns-then-first-second
returns-then-first-second c = unequal _ _ (λ e. c.if-first-second.true (rw e refl))

pub returns-in_err-check_job : goal.returns-in_err-check_job
returns-in_err-check_job c =
    let p = err_from_is_err_and c.from_residual.result c.from_residual.ensures.1 in
    rw (p.1, p.2) (first-out _ _ (omega (arith, c.if-first-second.false)) _ c.in_err-check_job.ensures)

pub returns-in_err-check_job-2 : goal.returns-in_err-check_job-2
returns-in_err-check_job-2 c =
    let p = err_from_is_err_and c.from_residual-in_err-check_job-2.result c.from_residual-in_err-check_job-2.ensures.1 in
    rw (p.1, p.2)
    (second-out _ _ (omega (arith, c.if-first-second.false)) (not-judged _ _ _ (sym c.in_ok-check_job.ensures)) _ c.in_err-check_job-2.ensures)

pub returns-then-first-second-gt-MOST_SAMPLES : goal.returns-then-first-second-gt-MOST_SAMPLES
returns-then-first-second-gt-MOST_SAMPLES c =
    many _ _ (omega (arith, c.if-first-second.false)) (not-judged _ _ _ (sym c.in_ok-check_job.ensures))
    (not-judged _ _ _ (sym c.in_ok-check_job-2.ensures))
    (omega (arith, c.if-first-second-gt-MOST_SAMPLES.true))

pub returns : goal.returns
returns c =
    taken _ _ (omega (arith, c.if-first-second.false)) (not-judged _ _ _ (sym c.in_ok-check_job.ensures))
    (not-judged _ _ _ (sym c.in_ok-check_job-2.ensures))
    (omega (arith, c.if-first-second-gt-MOST_SAMPLES.false))
