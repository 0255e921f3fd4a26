use mathlib.Core.Path.{ap, ◌∙◌}
use Rattle.record.specs.Run.{no_pair}
use Rattle.record.proofs.Told.{told_none}
use Rattle.record.proofs.work.Work.is_settled.Goals as goal

pub returns : goal.returns
returns c = told_none _ _ c.is_none.ensures ∙ ap no_pair c.loose_pair_of.ensures.is
