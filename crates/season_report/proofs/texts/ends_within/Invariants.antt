-- The ends that are left decide.
use Rattle.std.proofs.Common.{◌≡◌, drop}
use Rattle.season_report.specs.Texts.{ends_within}
use Rattle.season_report.proofs.texts.ends_within.Given as goal

abbrev pub invariant-loop-end : goal.invariant-loop-end
invariant-loop-end l = ends_within 0 l.size l.ends ≡ ends_within l.start l.size (drop l.end-index l.ends)
