-- `sample::numbers_at` meets its contract.
use Rattle.std.proofs.Common.{◌≡◌, ◌+◌, ◌-◌, arith, rules}
use Rattle.job.proofs.Lines.{numbers_more, numbers-broken, numbers-unended, numbers-last}
use Rattle.job.proofs.sample.numbers_at.Goals as goal

pub returns-in_default : goal.returns-in_default
returns-in_default c = numbers-broken _ _ _ _ _ _ c.loop-i.invariant.1 _ c.number.ensures (omega arith) c.in_default.not-Inner

pub loop-i-preserved : goal.loop-i-preserved
loop-i-preserved c =
    let e : c.args.inner - c.loop-i.i - 1 ≡ c.args.inner - (c.loop-i.i + 1) = omega arith in
    (search rules, rw e at (numbers_more _ _ _ _ _ _ c.loop-i.invariant.1 _ c.number.ensures (omega arith) _ _ c.in-Inner.is))

pub returns-in_default-number : goal.returns-in_default-number
returns-in_default-number c =
    numbers-unended _ _ _ _ _ _ c.loop-i.invariant.1 _ c.number-2.ensures (omega arith) c.in_default-number.not-Last

pub returns : goal.returns
returns c =
    let e : c.loop-i.i ≡ c.args.inner = omega arith in
    rw e at (numbers-last _ _ _ _ _ _ c.loop-i.invariant.1 _ c.number-2.ensures (omega arith) _ _ c.in-Last.is)
