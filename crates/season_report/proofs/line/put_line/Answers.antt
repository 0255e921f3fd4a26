-- `season_report::line::put_line` meets its contract: the numbers and the line feed, each written where the last one ended.
use Rattle.std.proofs.Common.{append_assoc, arith}
use Rattle.text.specs.laws.Numbers.{first-and-others, length-number-fields}
use Rattle.text.specs.laws.Put.{part-size, put-part, same-put}
use Rattle.season_report.specs.laws.Text.{line_first, line-parts}
use Rattle.season_report.proofs.line.put_line.Goals as goal

pub put_fields-at-requires : goal.put_fields-at-requires
put_fields-at-requires c =
    let zs = c.args.numbers.now in
    let h = c.requires.0 in
    (h, omega (arith, line-parts zs h, length-number-fields zs h, c.requires.1))

pub put_byte-requires : goal.put_byte-requires
put_byte-requires c =
    let zs = c.args.numbers.now in
    let h = c.requires.0 in
    let put = c.put_fields-at.ensures in
    omega (arith, line-parts zs h, length-number-fields zs h, c.requires.1, put.answer, part-size put)

pub returns : goal.returns
returns c =
    let zs = c.args.numbers.now in
    let h = c.requires.0 in
    let put = rw (first-and-others zs h) at c.put_fields-at.ensures in
    same-put (simp (line_first zs h, append_assoc)) (put-part put c.put_byte.ensures)
