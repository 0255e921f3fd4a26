-- Each field is written where the last one ended.
use Rattle.std.proofs.Common.{append_assoc, arith}
use Rattle.text.specs.laws.Numbers.{refusal-line}
use Rattle.text.specs.laws.Put.{part-size, put-part, same-put}
use Rattle.text.proofs.line.put_refusal.Goals as goal

pub put_natural_field-at-requires : goal.put_natural_field-at-requires
put_natural_field-at-requires c = omega (arith, part-size c.put_byte-at.ensures)

pub put_natural_field-at-requires-2 : goal.put_natural_field-at-requires-2
put_natural_field-at-requires-2 c =
    omega (arith, c.put_natural_field-at.ensures.bounded, part-size (put-part c.put_byte-at.ensures c.put_natural_field-at.ensures.puts))

pub put_byte-requires : goal.put_byte-requires
put_byte-requires c =
    let number = put-part c.put_byte-at.ensures c.put_natural_field-at.ensures.puts in
    let line = put-part number c.put_natural_field-at-2.ensures.puts in
    omega (arith, c.put_natural_field-at.ensures.bounded, c.put_natural_field-at-2.ensures.bounded, part-size line)

pub returns : goal.returns
returns c =
    let number = put-part c.put_byte-at.ensures c.put_natural_field-at.ensures.puts in
    let line = put-part number c.put_natural_field-at-2.ensures.puts in
    rw (← c.from.ensures) (same-put (simp (refusal-line, append_assoc)) (put-part line c.put_byte.ensures))
