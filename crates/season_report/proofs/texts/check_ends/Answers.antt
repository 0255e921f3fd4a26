-- `season_report::texts::check_ends` meets its contract: 2, then 16.
use Rattle.std.proofs.Common.{sym, ◌∙◌}
use Rattle.season_report.proofs.Ends.{refusal-16, refusal-2, refusal-none}
use Rattle.season_report.proofs.texts.check_ends.Goals as goal

pub returns-then-not-ends_within : goal.returns-then-not-ends_within
returns-then-not-ends_within c = refusal-2 _ _ (sym c.ends_within.ensures ∙ c.if-not-ends_within.true)

pub returns-then-ends-gt-MOST_JOBS : goal.returns-then-ends-gt-MOST_JOBS
returns-then-ends-gt-MOST_JOBS c = refusal-16 _ _ (sym c.ends_within.ensures ∙ c.if-not-ends_within.false) c.if-ends-gt-MOST_JOBS.true

pub returns : goal.returns
returns c = refusal-none _ _ (sym c.ends_within.ensures ∙ c.if-not-ends_within.false) c.if-ends-gt-MOST_JOBS.false
