-- A tab, and the digits where it ended.
use Rattle.std.proofs.Common.{arith}
use Rattle.text.specs.laws.Digits.{length-natural}
use Rattle.text.specs.laws.Put.{part-size}
use Rattle.text.proofs.line.put_natural_field.Goals as goal

pub put_natural-requires : goal.put_natural-requires
put_natural-requires c = omega (arith, length-natural c.args.x c.ranges.x.fits, part-size c.put_byte-at.ensures)

pub returns-clause-bounded : goal.returns-clause-bounded
returns-clause-bounded c = omega (arith, length-natural c.args.x c.ranges.x.fits, c.put_byte-at.ensures.answer, c.put_natural.ensures.answer)
