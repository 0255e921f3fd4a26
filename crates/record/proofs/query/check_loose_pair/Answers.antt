use Rattle.std.proofs.Common.{arith}
use borrow.Author.Tests.{le-leb, le-ltb, lt-leb, lt-ltb}
use Rattle.ledger.specs.Refusal.{refusal_under}
use Rattle.limits.specs.Limits.{tolerance_limit}
use Rattle.refusal.specs.Refusal.{judged}
use Rattle.record.proofs.query.check_loose_pair.Goals as goal

pub returns-then-n-eq0 : goal.returns-then-n-eq0
unfolding judged refusal_under
returns-then-n-eq0 c = rw (le-ltb 0 c.args.n (omega arith))

pub returns-then-t-gt-TOLERANCE_LIMIT : goal.returns-then-t-gt-TOLERANCE_LIMIT
unfolding judged refusal_under
returns-then-t-gt-TOLERANCE_LIMIT c = rw (lt-ltb 0 c.args.n (omega arith), lt-leb c.args.t tolerance_limit (omega arith))

pub returns : goal.returns
unfolding judged refusal_under
returns c = rw (lt-ltb 0 c.args.n (omega arith), le-leb c.args.t tolerance_limit (omega arith))
