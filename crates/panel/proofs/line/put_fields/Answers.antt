-- `panel::line::put_fields` meets its contract: the numbers, the word and the line feed, each written where the last one ended.
use Rattle.std.proofs.Common.{append_assoc, arith}
use Rattle.text.specs.laws.Numbers.{first-and-others, length-number-fields}
use Rattle.text.specs.laws.Put.{part-size, put-part, same-put}
use Rattle.panel.specs.laws.Text.{first-and-further, first-and-further-length}
use Rattle.panel.proofs.line.put_fields.Goals as goal

pub put_fields-at-requires : goal.put_fields-at-requires
put_fields-at-requires c =
    let zs = c.args.numbers.now in
    let h = c.requires.0 in
    (h, omega (arith, first-and-further-length zs c.args.word.now h, length-number-fields zs h))

pub put_byte-at-requires : goal.put_byte-at-requires
put_byte-at-requires c =
    let zs = c.args.numbers.now in
    let h = c.requires.0 in
    let put = c.put_fields-at.ensures in
    omega (arith, first-and-further-length zs c.args.word.now h, length-number-fields zs h, put.answer, part-size put)

pub put_bytes-at-requires : goal.put_bytes-at-requires
put_bytes-at-requires c =
    let zs = c.args.numbers.now in
    let h = c.requires.0 in
    let put = c.put_fields-at.ensures in
    let tab = put-part put c.put_byte-at.ensures in
    omega (arith, first-and-further-length zs c.args.word.now h, length-number-fields zs h, put.answer, part-size tab)

pub put_byte-requires : goal.put_byte-requires
put_byte-requires c =
    let zs = c.args.numbers.now in
    let h = c.requires.0 in
    let put = c.put_fields-at.ensures in
    let word = put-part (put-part put c.put_byte-at.ensures) c.put_bytes-at.ensures in
    omega (arith, first-and-further-length zs c.args.word.now h, length-number-fields zs h, put.answer, part-size word)

pub returns : goal.returns
returns c =
    let zs = c.args.numbers.now in
    let h = c.requires.0 in
    let put = rw (first-and-others zs h) at c.put_fields-at.ensures in
    let word = put-part (put-part put c.put_byte-at.ensures) c.put_bytes-at.ensures in
    same-put (simp (first-and-further zs c.args.word.now h, append_assoc)) (put-part word c.put_byte.ensures)
