-- `season_report::Season::take` meets its contract: beyond the limit, refused, or accepted and run.
use Rattle.std.proofs.Common.{◌<◌, sym, ◌∙◌, ap, arith}
use Rattle.limits.specs.Limits.{most_jobs}
use Rattle.season_report.specs.Job.{ran, refused_under}
use Rattle.season_report.specs.declared.Season.{Season}
use Rattle.season_report.proofs.Taking.{accepted-answer, ran-end, refused-answer, refused-end, taken-full, taken-job}
use Rattle.season_report.proofs.Season.take.Goals as goal

pub returns-then-self-ge-MOST_JOBS : goal.returns-then-self-ge-MOST_JOBS
returns-then-self-ge-MOST_JOBS c =
    taken-full c.args.self _ (omega (arith, ap (λ (s : Season). s.jobs) c.self.view_is, c.if-self-ge-MOST_JOBS.true))

pub returns-in-Ok : goal.returns-in-Ok
returns-in-Ok c =
    let e = sym c.read.ensures ∙ c.in-Ok.is in
    let few : c.args.self.jobs < most_jobs = omega (arith, ap (λ (s : Season). s.jobs) c.self.view_is, c.if-self-ge-MOST_JOBS.false) in
    taken-job c.args.self _ _ (ran _) few (accepted-answer _ _ e) (ran-end _ _ e _ c.run_of_job.ensures.is) c.with_run.ensures

pub returns-in-Err : goal.returns-in-Err
returns-in-Err c =
    let e = sym c.read.ensures ∙ c.in-Err.is in
    let few : c.args.self.jobs < most_jobs = omega (arith, ap (λ (s : Season). s.jobs) c.self.view_is, c.if-self-ge-MOST_JOBS.false) in
    taken-job c.args.self _ _ (refused_under _) few (refused-answer _ _ e) (refused-end _ _ e) c.with_refused.ensures
