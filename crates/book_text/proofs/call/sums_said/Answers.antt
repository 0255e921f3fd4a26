-- `call::sums_said` meets its contract.
use Rattle.std.proofs.Common.{◌∙◌}
use Rattle.book.specs.Calls.{read_summary, rebuild}
use Rattle.book_text.proofs.Saying.{refused-text, sums-say}
use Rattle.book_text.proofs.call.sums_said.Goals as goal

pub returns-in-Ok : goal.returns-in-Ok
returns-in-Ok c = sums-say c.args.b _ _ c.in-Ok.ensures.read c.channels.ensures c.requires.1 c.sums_page.ensures

pub returns-in-Err : goal.returns-in-Err
returns-in-Err c = (
  c.refused.ensures ∙ refused-text c.args.b read_summary _ _ c.in-Err.ensures.read,
  c.refused.ensures ∙ refused-text c.args.b rebuild _ _ c.in-Err.ensures.rebuilt,
)
