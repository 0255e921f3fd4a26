-- The first number, and the others where it ended.
use Rattle.std.proofs.Common.{FitsSigned, arith, get_or, pos, rules, w64}
use mir.Facts.{to_z-of_z}
use Rattle.text.specs.laws.Numbers.{first-and-others, length-number-fields}
use Rattle.text.specs.laws.Put.{part-size, put-part, rest_all}
use Rattle.text.proofs.line.put_fields.Goals as goal

pub put_number-at-requires : goal.put_number-at-requires
put_number-at-requires c =
    let fits : FitsSigned w64 (get_or c.args.values.now 0 (pos 0)) = search rules in
    rw (to_z-of_z fits) (omega (arith, length-number-fields c.args.values.now c.requires.0))

pub put_numbers-requires : goal.put_numbers-requires
put_numbers-requires c =
    let zs = c.args.values.now in
    let fits : FitsSigned w64 (get_or zs 0 (pos 0)) = search rules in
    let first = rw (to_z-of_z fits) at c.put_number-at.ensures in
    rw (rest_all 1 zs) (omega (arith, length-number-fields zs c.requires.0, part-size first, first.answer))

pub returns : goal.returns
returns c =
    let zs = c.args.values.now in
    let fits : FitsSigned w64 (get_or zs 0 (pos 0)) = search rules in
    let first = rw (to_z-of_z fits) at c.put_number-at.ensures in
    rw (first-and-others zs c.requires.0) (put-part first (rw (rest_all 1 zs) at c.put_numbers.ensures))
