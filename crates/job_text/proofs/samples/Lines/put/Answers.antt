-- One line more, in the buffer's part from where the last line ended.
use Rattle.std.proofs.Common.{ap, arith, length}
use Rattle.text.specs.Line.{number_line}
use Rattle.text.specs.laws.Lines.{line-within, lines_more, lines_none}
use Rattle.text.specs.laws.Put.{part-size, put-nothing, put-part, same-put}
use Rattle.job_text.specs.JobText.{sample_line}
use Rattle.job_text.proofs.samples.Lines.put.Goals as goal

pub loop-i-init : goal.loop-i-init
loop-i-init c = rw (lines_none (sample_line _ _ _)) (put-nothing 0 c.args.out.now (omega arith))

pub put_line-at-requires : goal.put_line-at-requires
unfolding sample_line
put_line-at-requires c =
    let a = c.args.self.now.samples in
    let i = c.loop-i.i in
    let room = line-within (sample_line a.n a.dilutions.now a.counts.now) (length a.dilutions.now) i c.loop-i-test.true in
    let line = ap (number_line 83) c.numbers.ensures.1 in
    omega (arith, ap length line, room, c.loop-i.invariant.answer, part-size c.loop-i.invariant, c.requires)

pub loop-i-preserved : goal.loop-i-preserved
unfolding sample_line
loop-i-preserved c =
    rw (lines_more (sample_line _ _ _) c.loop-i.i)
    (put-part c.loop-i.invariant (same-put (ap (number_line 83) c.numbers.ensures.1) c.put_line-at.ensures))
