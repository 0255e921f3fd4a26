use Rattle.std.proofs.Common.{◌*◌, arith, inl, inr, length, sym, ◌∙◌, ne_eqb}
use borrow.Author.Tests.{le-leb, lt-leb}
use Rattle.ledger.specs.Refusal.{refusal_under}
use Rattle.refusal.specs.Refusal.{judged}
use Rattle.record.proofs.Checks.{sized}
use Rattle.record.proofs.load.check_load.Goals as goal

pub returns-then-n-lt-LEAST_CHANNELS : goal.returns-then-n-lt-LEAST_CHANNELS
unfolding judged refusal_under
returns-then-n-lt-LEAST_CHANNELS c =
    elim c.then-n-lt-LEAST_CHANNELS.either [
      | inl h ↦ rw (lt-leb 2 c.args.n h)
      | inr h ↦ rw (le-leb 2 c.args.n h.0, lt-leb c.args.n 8 h.1)
    ]

pub returns-then-numbers-n : goal.returns-then-numbers-n
unfolding judged refusal_under
returns-then-numbers-n c =
    rw (
      le-leb 2 c.args.n (omega arith),
      le-leb c.args.n 8 (omega arith),
      ne_eqb (length c.args.numbers.now) (c.args.n * c.args.n) c.if-numbers-n.true,
    )

pub returns-then-not-all_within : goal.returns-then-not-all_within
unfolding judged
returns-then-not-all_within c =
    rw (sized c.args.n c.args.numbers.now (omega arith) (omega arith) (omega arith), sym c.all_within.ensures ∙ c.if-not-all_within.true)

pub returns-then-not-is_symmetric : goal.returns-then-not-is_symmetric
unfolding judged
returns-then-not-is_symmetric c =
    rw (
      sized c.args.n c.args.numbers.now (omega arith) (omega arith) (omega arith),
      sym c.all_within.ensures ∙ c.if-not-all_within.false,
      sym c.is_symmetric.ensures ∙ c.if-not-is_symmetric.true,
    )

pub returns : goal.returns
unfolding judged
returns c =
    rw (
      sized c.args.n c.args.numbers.now (omega arith) (omega arith) (omega arith),
      sym c.all_within.ensures ∙ c.if-not-all_within.false,
      sym c.is_symmetric.ensures ∙ c.if-not-is_symmetric.false,
    )
