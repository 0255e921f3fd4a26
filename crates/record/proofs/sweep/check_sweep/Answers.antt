use Rattle.std.proofs.Common.{arith}
use borrow.Author.Tests.{le-leb, le-ltb, lt-leb, lt-ltb}
use Rattle.ledger.specs.Refusal.{refusal_under}
use Rattle.refusal.specs.Refusal.{judged}
use Rattle.record.proofs.sweep.check_sweep.Goals as goal

pub returns-then-n-eq0 : goal.returns-then-n-eq0
unfolding judged refusal_under
returns-then-n-eq0 c = rw (le-ltb 0 c.args.n (omega arith))

pub returns-then-m-n-gt-TURN_LIMIT : goal.returns-then-m-n-gt-TURN_LIMIT
unfolding judged refusal_under
returns-then-m-n-gt-TURN_LIMIT c = rw (lt-ltb 0 c.args.n (omega arith), lt-leb _ 448 c.if-m-n-gt-TURN_LIMIT.true)

pub returns : goal.returns
unfolding judged refusal_under
returns c = rw (lt-ltb 0 c.args.n (omega arith), le-leb _ 448 c.if-m-n-gt-TURN_LIMIT.false)
