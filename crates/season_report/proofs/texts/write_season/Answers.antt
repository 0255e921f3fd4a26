-- `season_report::texts::write_season` meets its contract: 2, then 16, then 12, then the line.
use Rattle.std.proofs.Common.{sym, ◌∙◌}
use Rattle.std.proofs.lemmas.Result.{err_from_is_err_and}
use Rattle.text.specs.laws.Written.{judged-refused, not-judged, not_taken}
use Rattle.season_report.proofs.Ends.{all-written, taken}
use Rattle.season_report.proofs.texts.write_season.Goals as goal

pub returns-in_err-check_ends : goal.returns-in_err-check_ends
returns-in_err-check_ends c =
    let p = err_from_is_err_and c.from_residual.result c.from_residual.ensures.1 in
    let e = sym c.check_ends.ensures ∙ c.in_err-check_ends.was in
    rw p.1 (rw p.2 (record { writes = not_taken _ _ _ _ _ e; few = λ q. absurd ((judged-refused _ _ _ e).0 q) }))

pub season_of-requires : goal.season_of-requires
season_of-requires c = (taken _ _ (not-judged _ _ _ (sym c.check_ends.ensures ∙ c.in_ok-check_ends.was))).0

pub returns : goal.returns
returns c =
    all-written _ _ _ (not-judged _ _ _ (sym c.check_ends.ensures ∙ c.in_ok-check_ends.was)) c.season_of.ensures c.write_line.ensures
