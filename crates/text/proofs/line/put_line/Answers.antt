-- The tag, the numbers and the line feed, each written where the last one ended.
use Rattle.std.proofs.Common.{arith}
use Rattle.text.specs.laws.Numbers.{length-number-line, number-line}
use Rattle.text.specs.laws.Put.{put-part, part-size}
use Rattle.text.proofs.line.put_line.Goals as goal

pub put_byte-at-requires : goal.put_byte-at-requires
put_byte-at-requires c = let sized = rw length-number-line at c.requires in omega arith

pub put_numbers-at-requires : goal.put_numbers-at-requires
put_numbers-at-requires c = let sized = rw length-number-line at c.requires in omega (arith, part-size c.put_byte-at.ensures)

pub put_byte-requires : goal.put_byte-requires
put_byte-requires c =
    let sized = rw length-number-line at c.requires in omega (arith, part-size (put-part c.put_byte-at.ensures c.put_numbers-at.ensures))

pub returns : goal.returns
returns c = rw number-line (put-part (put-part c.put_byte-at.ensures c.put_numbers-at.ensures) c.put_byte.ensures)
