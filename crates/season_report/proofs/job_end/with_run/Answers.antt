-- `season_report::job_end::with_run` meets its contract.
use Rattle.std.proofs.Common.{◌≡◌, ◌<◌, cond, refl, sym, ap, subst, ◌∙◌, arith, length, rules}
use Rattle.limits.specs.Limits.{most_jobs}
use Rattle.season_report.specs.declared.Season.{Season}
use denote.Enum.Bare.{sameb}
use mir.Val.{bool_byte}
use Rattle.record.specs.contracts.run.Outcome.{the_type}
use Rattle.record.specs.declared.run.Outcome.{Outcome}
use Rattle.record.specs.declared.run.Outcome.TheVariants.{Settled, Still, Spent}
use Rattle.season_report.specs.Job.{is_settled, is_spent, is_still, ran}
use Rattle.season_report.specs.Limits.{SeasonLimits, figures_in}
use Rattle.season_report.specs.laws.Limits.{limits-more, run-limits}
use Rattle.season_report.proofs.Added.{run-added}
use Rattle.season_report.proofs.job_end.with_run.Goals as goal

-- each test of the outcome, as a number
settled-counts : (o : Outcome) → bool_byte (sameb the_type o Settled) ≡ cond (is_settled o) 1 0
unfolding is_settled
settled-counts Settled = refl
settled-counts Still = refl
settled-counts Spent = refl

still-counts : (o : Outcome) → bool_byte (sameb the_type o Still) ≡ cond (is_still o) 1 0
unfolding is_still
still-counts Settled = refl
still-counts Still = refl
still-counts Spent = refl

spent-counts : (o : Outcome) → bool_byte (sameb the_type o Spent) ≡ cond (is_spent o) 1 0
unfolding is_spent
spent-counts Settled = refl
spent-counts Still = refl
spent-counts Spent = refl

pub invariant_of-result : goal.invariant_of-result
invariant_of-result c =
    let run = c.args.run in
    let n : length c.s.inside.refused ≡ 4 = search rules in
    let few : c.s.inside.jobs < most_jobs = omega (arith, ap (λ (s : Season). s.jobs) c.s.view_is, c.requires.0) in
    subst SeasonLimits
    (sym (run-added (figures_in c.s.inside) run
    (c.from.ensures ∙ ap bool_byte c.eq.ensures ∙ settled-counts run.outcome)
    (c.from-2.ensures ∙ ap bool_byte c.eq-2.ensures ∙ still-counts run.outcome)
    (c.from-3.ensures ∙ ap bool_byte c.eq-3.ensures ∙ spent-counts run.outcome)
    c.turns.ensures n c.with_errors.ensures))
    (limits-more (figures_in c.s.inside) (ran run) c.s.invariant few (run-limits run c.requires.1))

pub returns : goal.returns
returns c =
    let run = c.args.run in
    let n : length c.s.inside.refused ≡ 4 = search rules in
    rw (← c.s.view_is)
    (run-added (figures_in c.s.inside) run
    (c.from.ensures ∙ ap bool_byte c.eq.ensures ∙ settled-counts run.outcome)
    (c.from-2.ensures ∙ ap bool_byte c.eq-2.ensures ∙ still-counts run.outcome)
    (c.from-3.ensures ∙ ap bool_byte c.eq-3.ensures ∙ spent-counts run.outcome)
    c.turns.ensures n c.with_errors.ensures)
