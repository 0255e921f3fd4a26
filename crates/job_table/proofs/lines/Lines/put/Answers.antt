-- The first line, and the rows after it.
use Rattle.std.proofs.Common.{arith, length-append}
use Rattle.text.specs.laws.Put.{part-size, put-part}
use Rattle.job_table.specs.inner.Done.{text_of_rows}
use Rattle.job_table.proofs.lines.Lines.put.Goals as goal

pub put_line-at-requires : goal.put_line-at-requires
unfolding text_of_rows
put_line-at-requires c = let sized = rw length-append at c.requires in omega arith

pub put_rows-requires : goal.put_rows-requires
unfolding text_of_rows
put_rows-requires c =
    let sized = rw length-append at c.requires in
    let few = c.args.self.now.few in
    (few, omega arith, omega (arith, part-size c.put_line-at.ensures))

pub returns : goal.returns
unfolding text_of_rows
returns c = put-part c.put_line-at.ensures c.put_rows.ensures
