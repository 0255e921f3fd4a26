-- The texts from here on are still to be taken.
use Rattle.season_report.proofs.Ends.{TextsLeft}
use Rattle.season_report.proofs.texts.season_of.Given as goal

abbrev pub invariant-loop-end : goal.invariant-loop-end
invariant-loop-end l = TextsLeft l.texts l.ends l.season l.start l.end-index
