-- A negative number has a minus before its digits.
use Rattle.std.proofs.Common.{◌≡◌, ◌+◌, arith, length}
use Rattle.text.specs.Decimal.{number}
use Rattle.text.specs.laws.Digits.{length-number}
use Rattle.text.proofs.Sign.{negative-text, natural-text}
use Rattle.text.proofs.number_length.Goals as goal

pub returns-then-z-lt0 : goal.returns-then-z-lt0
returns-then-z-lt0 c =
    let e : 1 + c.natural_length-n.result ≡ length (number c.args.z)
    = rw (negative-text c.args.z c.ranges.z c.if-z-lt0.true, c.natural_length-n.ensures.exact, c.magnitude.ensures) (omega arith) in
    record { exact = e; bounded = omega (arith, length-number c.args.z c.ranges.z.sfits) }

pub returns-else-z-lt0 : goal.returns-else-z-lt0
returns-else-z-lt0 c = record {
  exact = rw (natural-text c.args.z c.ranges.z c.if-z-lt0.false, c.natural_length-n.ensures.exact, c.magnitude.ensures);
  bounded = c.natural_length-n.ensures.bounded;
}
