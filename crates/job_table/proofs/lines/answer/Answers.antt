-- `job_table::lines::answer` meets its contract: 2,048 bytes are room for every text, and for the line of a refusal.
use Rattle.std.proofs.Common.{arith}
use Rattle.job.specs.laws.Replying.{reply_printed}
use Rattle.job_table.proofs.lines.answer.Goals as goal

pub returns : goal.returns
returns c = reply_printed _ _ _ _ _ _ _ (omega arith) c.table_text-reply.ensures c.put_reply.ensures
