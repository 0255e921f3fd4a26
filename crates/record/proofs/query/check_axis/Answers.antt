use Rattle.std.proofs.Common.{arith, inl, inr}
use borrow.Author.Tests.{le-leb, le-ltb, lt-leb, lt-ltb}
use Rattle.ledger.specs.Refusal.{refusal_under}
use Rattle.refusal.specs.Refusal.{judged}
use Rattle.record.proofs.query.check_axis.Goals as goal

pub returns-then-n-eq0 : goal.returns-then-n-eq0
unfolding judged refusal_under
returns-then-n-eq0 c = rw (le-ltb 0 c.args.n (omega arith))

pub returns-then-i-lt1 : goal.returns-then-i-lt1
unfolding judged refusal_under
returns-then-i-lt1 c =
    elim c.then-i-lt1.either [
      | inl h ↦ rw (lt-ltb 0 c.args.n (omega arith), lt-leb 1 c.args.i h)
      | inr h ↦ rw (lt-ltb 0 c.args.n (omega arith), le-leb 1 c.args.i h.0, lt-leb c.args.i c.args.n h.1)
    ]

pub returns : goal.returns
unfolding judged refusal_under
returns c = rw (lt-ltb 0 c.args.n (omega arith), le-leb 1 c.args.i (omega arith), le-leb c.args.i c.args.n (omega arith))
