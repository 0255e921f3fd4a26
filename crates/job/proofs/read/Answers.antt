-- `read` meets its contract: a first line that is refused is the text's refusal.
use Rattle.std.proofs.Common.{sym, ◌∙◌}
use Rattle.job.proofs.Told.{unbegun}
use Rattle.job.proofs.read.Goals as goal

pub returns-in-Err : goal.returns-in-Err
returns-in-Err c = unbegun _ _ (sym c.in-Err.is ∙ c.first_line.ensures)
