use Rattle.std.proofs.Common.{arith, inl, inr}
use borrow.Author.Tests.{le-leb, le-ltb, lt-leb, lt-ltb}
use Rattle.ledger.specs.Refusal.{refusal_under}
use Rattle.limits.specs.Limits.{turn_limit}
use Rattle.refusal.specs.Refusal.{judged}
use Rattle.record.proofs.sweep.check_turn.Goals as goal

pub returns-then-n-eq0 : goal.returns-then-n-eq0
unfolding judged refusal_under
returns-then-n-eq0 c = rw (le-ltb 0 c.args.n (omega arith))

pub returns-then-p-lt1 : goal.returns-then-p-lt1
unfolding judged refusal_under
returns-then-p-lt1 c =
    elim c.then-p-lt1.either [
      | inl h ↦ rw (lt-ltb 0 c.args.n (omega arith), lt-leb 1 c.args.p h)
      | inr h ↦ elim h [
        | inl k ↦ rw (lt-ltb 0 c.args.n (omega arith), le-leb 1 c.args.p k.0, le-ltb c.args.p c.args.q k.1)
        | inr k ↦ rw (lt-ltb 0 c.args.n (omega arith), le-leb 1 c.args.p k.0, lt-ltb c.args.p c.args.q k.1, lt-leb c.args.q c.args.n k.2)
      ]
    ]

pub returns-then-m-ge-TURN_LIMIT : goal.returns-then-m-ge-TURN_LIMIT
unfolding judged refusal_under
returns-then-m-ge-TURN_LIMIT c =
    rw (
      lt-ltb 0 c.args.n (omega arith),
      le-leb 1 c.args.p (omega arith),
      lt-ltb c.args.p c.args.q (omega arith),
      le-leb c.args.q c.args.n (omega arith),
      le-ltb c.args.m turn_limit (omega arith),
    )

pub returns : goal.returns
unfolding judged refusal_under
returns c =
    rw (
      lt-ltb 0 c.args.n (omega arith),
      le-leb 1 c.args.p (omega arith),
      lt-ltb c.args.p c.args.q (omega arith),
      le-leb c.args.q c.args.n (omega arith),
      lt-ltb c.args.m turn_limit (omega arith),
    )
