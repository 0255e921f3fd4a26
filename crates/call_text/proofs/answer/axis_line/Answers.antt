-- `axis_line` meets its contract: the tag, the fields and the line feed, each where the last one ended.
use Rattle.std.proofs.Common.{◌≡◌, ◌∙◌, arith, length, refl, take}
use mir.Facts.{to_z-of_z}
use borrow.Author.Rules.{rules}
use Rattle.text.specs.laws.Page.{filled, put-text}
use Rattle.text.specs.laws.Put.{array-part, array-size}
use Rattle.call_text.proofs.Printing.{axis-text, element-size, numbers-bound, one-bound}
use Rattle.call_text.proofs.answer.axis_line.Goals as goal

pub put_numbers-at-requires : goal.put_numbers-at-requires
put_numbers-at-requires c =
    rw (to_z-of_z c.ranges.entry) (omega (arith, one-bound c.args.entry c.ranges.entry.sfits, array-size c.put_byte-at.ensures {size = 256} refl))

pub put_natural_field-at-requires : goal.put_natural_field-at-requires
put_natural_field-at-requires c =
    let entry = array-part c.put_byte-at.ensures {size = 256} refl (rw (to_z-of_z c.ranges.entry) at c.put_numbers-at.ensures) in
    omega (arith, one-bound c.args.entry c.ranges.entry.sfits, array-size entry {size = 256} refl)

pub put_numbers-at-requires-2 : goal.put_numbers-at-requires-2
put_numbers-at-requires-2 c =
    let l : length c.args.row ≡ 8 = search rules in
    let entry = array-part c.put_byte-at.ensures {size = 256} refl (rw (to_z-of_z c.ranges.entry) at c.put_numbers-at.ensures) in
    let error = array-part entry {size = 256} refl c.put_natural_field-at.ensures.puts in
    let r = numbers-bound c.args.row (λ i. search (rules, element-size)) c.args.n in
    omega (arith, one-bound c.args.entry c.ranges.entry.sfits, c.put_natural_field-at.ensures.bounded, array-size error {size = 256} refl)

pub put_byte-requires : goal.put_byte-requires
put_byte-requires c =
    let entry = array-part c.put_byte-at.ensures {size = 256} refl (rw (to_z-of_z c.ranges.entry) at c.put_numbers-at.ensures) in
    let error = array-part entry {size = 256} refl c.put_natural_field-at.ensures.puts in
    let numbers = array-part error {size = 256} refl c.put_numbers-at-2.ensures in
    let r = numbers-bound c.args.row (λ i. search (rules, element-size)) c.args.n in
    omega (arith, one-bound c.args.entry c.ranges.entry.sfits, c.put_natural_field-at.ensures.bounded, array-size numbers {size = 256} refl)

pub new-requires : goal.new-requires
new-requires c =
    let entry = array-part c.put_byte-at.ensures {size = 256} refl (rw (to_z-of_z c.ranges.entry) at c.put_numbers-at.ensures) in
    let error = array-part entry {size = 256} refl c.put_natural_field-at.ensures.puts in
    let numbers = array-part error {size = 256} refl c.put_numbers-at-2.ensures in
    (omega arith, (omega arith, filled 256 (array-part numbers {size = 256} refl c.put_byte.ensures)))

pub returns : goal.returns
returns c =
    let entry = array-part c.put_byte-at.ensures {size = 256} refl (rw (to_z-of_z c.ranges.entry) at c.put_numbers-at.ensures) in
    let error = array-part entry {size = 256} refl c.put_natural_field-at.ensures.puts in
    let numbers = array-part error {size = 256} refl c.put_numbers-at-2.ensures in
    c.new.ensures ∙ put-text 256 (array-part numbers {size = 256} refl c.put_byte.ensures) ∙ axis-text c.args.entry _ (take c.args.n c.args.row)
