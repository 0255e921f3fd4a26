-- The tag, the numbers, the word and the line feed, each written where the last one ended.
use Rattle.std.proofs.Common.{append_assoc, arith}
use Rattle.text.specs.laws.Numbers.{length-word-line, word-line}
use Rattle.text.specs.laws.Put.{part-size, put-part, same-put}
use Rattle.text.proofs.line.put_word_line.Goals as goal

pub put_byte-at-requires : goal.put_byte-at-requires
put_byte-at-requires c = let sized = rw length-word-line at c.requires in omega arith

pub put_numbers-at-requires : goal.put_numbers-at-requires
put_numbers-at-requires c = let sized = rw length-word-line at c.requires in omega (arith, part-size c.put_byte-at.ensures)

pub put_byte-at-requires-2 : goal.put_byte-at-requires-2
put_byte-at-requires-2 c =
    let sized = rw length-word-line at c.requires in
    omega (arith, part-size (put-part c.put_byte-at.ensures c.put_numbers-at.ensures))

pub put_bytes-at-requires : goal.put_bytes-at-requires
put_bytes-at-requires c =
    let sized = rw length-word-line at c.requires in
    omega (arith, part-size (put-part (put-part c.put_byte-at.ensures c.put_numbers-at.ensures) c.put_byte-at-2.ensures))

pub put_byte-requires : goal.put_byte-requires
put_byte-requires c =
    let sized = rw length-word-line at c.requires in
    let numbers = put-part c.put_byte-at.ensures c.put_numbers-at.ensures in
    omega (arith, part-size (put-part (put-part numbers c.put_byte-at-2.ensures) c.put_bytes-at.ensures))

pub returns : goal.returns
returns c =
    let numbers = put-part c.put_byte-at.ensures c.put_numbers-at.ensures in
    let word = put-part (put-part numbers c.put_byte-at-2.ensures) c.put_bytes-at.ensures in
    same-put (simp (word-line, append_assoc)) (put-part word c.put_byte.ensures)
