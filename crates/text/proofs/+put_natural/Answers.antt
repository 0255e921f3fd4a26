-- The digits of x / 10, and then the last digit.
use Rattle.std.proofs.Common.{arith}
use Rattle.text.specs.laws.Digits.{more-digits, more-length, one-digit}
use Rattle.text.specs.laws.Put.{part-size, put-part}
use Rattle.text.proofs.+put_natural.Goals as goal

pub put_byte-requires : goal.put_byte-requires
put_byte-requires t c = rw (one-digit c.args.x c.if-x-lt10.true) at c.requires

pub put_natural-at-requires : goal.put_natural-at-requires
put_natural-at-requires t c = (omega arith, omega (arith, more-length c.args.x c.if-x-lt10.false))

pub put_byte-requires-else-x-lt10 : goal.put_byte-requires-else-x-lt10
put_byte-requires-else-x-lt10 t c = omega (arith, more-length c.args.x c.if-x-lt10.false, part-size c.put_natural-at.ensures)

pub returns-then-x-lt10 : goal.returns-then-x-lt10
returns-then-x-lt10 t c = rw (one-digit c.args.x c.if-x-lt10.true) c.put_byte.ensures

pub returns-else-x-lt10 : goal.returns-else-x-lt10
returns-else-x-lt10 t c = rw (more-digits c.args.x c.if-x-lt10.false) (put-part c.put_natural-at.ensures c.put_byte-else-x-lt10.ensures)
