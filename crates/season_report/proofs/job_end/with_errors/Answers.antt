-- `season_report::job_end::with_errors` meets its contract: one axis after another.
use Rattle.std.proofs.Common.{◌≡◌, ◌+◌, ◌-◌, arith, ◌∙◌, ap, refl}
use Rattle.integer.specs.Tabulate.{tabulate}
use Rattle.season_report.specs.Season.{larger}
use Rattle.season_report.proofs.Added.{errors-all, errors-more, errors_to}
use Rattle.season_report.proofs.job_end.with_errors.Goals as goal

pub loop-i-init : goal.loop-i-init
unfolding errors_to tabulate larger
loop-i-init c = (omega arith, refl)

pub loop-i-preserved : goal.loop-i-preserved
loop-i-preserved c =
    let e : c.loop-i.i + 1 - 1 ≡ c.loop-i.i = omega arith in (
      omega (arith, c.loop-i-test.true),
      rw e (errors-more _ _ _ _ c.loop-i.auto.i c.loop-i.invariant.1 c.error_at.ensures c.with_error-largest.ensures),
    )

pub returns : goal.returns
returns c =
    let e : c.loop-i.i - 1 ≡ c.args.r.solver.n =
    omega (arith, c.loop-i.invariant.0, c.loop-i.auto.i-end, c.loop-i-test.false, c.channels-i-end.ensures) in
    c.loop-i.invariant.1 ∙ rw e (ap (larger c.args.largest c.args.job) (errors-all c.args.r))

pub returns-2 : goal.returns-2
returns-2 c =
    let e : c.loop-i.i ≡ c.args.r.solver.n = omega (arith, c.loop-i-test.true, c.channels-i-end.ensures) in
    errors-more _ _ _ _ c.loop-i.auto.i c.loop-i.invariant.1 c.error_at.ensures c.with_error-largest.ensures
    ∙ rw e (ap (larger c.args.largest c.args.job) (errors-all c.args.r))
