-- `season_report::job_end::with_refused` meets its contract: the count of the refusal's number is one more, where there is one.
use Rattle.std.proofs.Common.{◌≡◌, ◌∙◌, ◌<◌, ap, arith, sym, subst, length, rules}
use Rattle.limits.specs.Limits.{most_jobs}
use Rattle.refusal.specs.Refusal.{number_of}
use Rattle.refusal.specs.laws.Numbers.{number_of-low}
use Rattle.season_report.specs.Job.{refused_under}
use Rattle.season_report.specs.Limits.{SeasonLimits, figures_in}
use Rattle.season_report.specs.declared.Season.{Season}
use Rattle.season_report.specs.laws.Limits.{limits-more, refused-limits}
use Rattle.season_report.proofs.Added.{counts_with, none-counted, one-counted, refused-added}
use Rattle.season_report.proofs.job_end.with_refused.Goals as goal
use Rattle.season_report.proofs.job_end.with_refused.Goals.{Joined-place-lt4, else-place-lt4, then-place-lt4}

counted : (c : Joined-place-lt4) → c.if-place-lt4.refused ≡ counts_with c.s.inside.refused (number_of c.args.refusal)
counted c =
    let n : length c.s.inside.refused ≡ 4 = search rules in
    let is = c.number.ensures in
    elim c.if-place-lt4.branch [
      | then-place-lt4 w ↦ w.refused-is ∙ rw is (one-counted _ _ n (number_of-low _) (rw is at w.if-place-lt4.true))
      | else-place-lt4 w ↦ w.refused-is ∙ none-counted _ _ n (rw is at w.if-place-lt4.false)
    ]

pub invariant_of-result : goal.invariant_of-result
invariant_of-result c =
    let few : c.s.inside.jobs < most_jobs = omega (arith, ap (λ (s : Season). s.jobs) c.s.view_is, c.requires) in
    subst SeasonLimits (sym (refused-added (figures_in c.s.inside) _ (counted (goal.at.invariant_of-result c).Joined-place-lt4)))
    (limits-more (figures_in c.s.inside) (refused_under _) c.s.invariant few (refused-limits _))

pub returns : goal.returns
returns c = rw (← c.s.view_is) (refused-added (figures_in c.s.inside) _ (counted (goal.at.returns c).Joined-place-lt4))
