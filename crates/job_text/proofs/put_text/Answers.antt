-- The first line, the samples after it, and the last line after them.
use Rattle.std.proofs.Common.{arith, length-append}
use Rattle.text.specs.laws.Put.{part-size, put-part}
use Rattle.job_text.specs.inner.Lines.{text_of_lines}
use Rattle.job_text.proofs.put_text.Goals as goal

pub put_line-at-requires : goal.put_line-at-requires
unfolding text_of_lines
put_line-at-requires c = let sized = simp length-append at c.requires in omega arith

pub put-at-requires : goal.put-at-requires
unfolding text_of_lines
put-at-requires c = let sized = simp length-append at c.requires in omega (arith, part-size c.put_line-at.ensures)

pub put_line-requires : goal.put_line-requires
unfolding text_of_lines
put_line-requires c =
    let sized = simp length-append at c.requires in
    let begun = put-part c.put_line-at.ensures c.put-at.ensures in
    omega (arith, rw length-append at begun.answer, part-size begun)

pub returns : goal.returns
unfolding text_of_lines
returns c = put-part (put-part c.put_line-at.ensures c.put-at.ensures) c.put_line.ensures
