-- Outcomes and refusals together make the number of jobs: a text is refused under 1 to 4, or its run ends in one of three ways.
use Rattle.std.specs.Prelude.{ℕ, zero, suc, ◌+◌, ◌≤◌, ◌≡◌, refl, cond, List, [], ◌∷◌, eqb, sum}
use Rattle.std.proofs.Common.{arith}
use Rattle.job.specs.laws.Refusals.{Known, KnownNumber, known}
use Rattle.job.specs.Job.{Answer, accepted, job_of, refused}
use Rattle.report.specs.Report.{run_for}
use Rattle.record.specs.declared.run.Outcome.{Outcome}
use Rattle.record.specs.declared.run.Outcome.TheVariants.{Settled, Still, Spent}
use Rattle.season_report.specs.Figures.{figures_of, text_figures}
use Rattle.season_report.specs.Job.{JobEnd, end_by, end_of, ended_as, is_refused_under, is_settled, is_spent, is_still}
use Rattle.season_report.specs.Lists.{total_of}

pub refused-numbers : (text : List ℕ) (number line : ℕ) → job_of text ≡ refused number line → (1 ≤ number) × (number ≤ 4)
refused-numbers text number line e = let k : KnownNumber number = rw e at (known text) in (k.from, k.to)

-- ---- the seven counts

-- what one job adds to each
counts : JobEnd → ℕ
counts e =
    cond (ended_as is_settled e) 1 0 + cond (ended_as is_still e) 1 0 + cond (ended_as is_spent e) 1 0 + cond (is_refused_under 1 e) 1 0
    + cond (is_refused_under 2 e) 1 0 + cond (is_refused_under 3 e) 1 0 + cond (is_refused_under 4 e) 1 0

outcome-once : (o : Outcome) → cond (is_settled o) 1 0 + cond (is_still o) 1 0 + cond (is_spent o) 1 0 ≡ 1
unfolding is_settled is_still is_spent
outcome-once Settled = refl
outcome-once Still = refl
outcome-once Spent = refl

number-once : (number : ℕ) → 1 ≤ number → number ≤ 4 →
    cond (eqb number 1) 1 0 + cond (eqb number 2) 1 0 + cond (eqb number 3) 1 0 + cond (eqb number 4) 1 0 ≡ 1
number-once zero l h = absurd (omega arith)
number-once (suc zero) l h = refl
number-once (suc (suc zero)) l h = refl
number-once (suc (suc (suc zero))) l h = refl
number-once (suc (suc (suc (suc zero)))) l h = refl
number-once (suc (suc (suc (suc (suc n))))) l h = absurd (omega arith)

one_each : (a : Answer) → Known a → counts (end_by a) ≡ 1
unfolding counts end_by ended_as is_refused_under
one_each (refused number line) p = omega (arith, number-once number p.from p.to)
one_each (accepted j) p = omega (arith, outcome-once (run_for j).outcome)

pub together : (texts : List (List ℕ)) →
    (let s = text_figures texts in s.settled + s.still + s.spent + sum s.refused ≡ s.jobs)
unfolding text_figures figures_of total_of counts end_of
together [] = refl
together (text ∷ texts) = omega (arith, together texts, one_each (job_of text) (known text))
