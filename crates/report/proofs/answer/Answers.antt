-- `report::answer` meets its contract: 2,048 bytes are room for every report, and for the line of a refusal.
use Rattle.std.proofs.Common.{arith}
use Rattle.job.specs.laws.Replying.{reply_printed}
use Rattle.report.proofs.answer.Goals as goal

pub returns : goal.returns
returns c = reply_printed _ _ _ _ _ _ _ (omega arith) c.report-reply.ensures c.put_reply.ensures
