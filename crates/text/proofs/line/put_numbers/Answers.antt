-- One number more, after its tab, where the last one ended.
use Rattle.std.proofs.Common.{arith, length, get_or, pos, w64, FitsSigned, rules, append_assoc}
use Rattle.std.proofs.Math.Seq.{take-length}
use mir.Facts.{to_z-of_z}
use Rattle.text.specs.Line.{further, numbers}
use Rattle.text.specs.laws.Numbers.{numbers_more, number-within}
use Rattle.text.specs.laws.Put.{put-nothing, put-part, part-size}
use Rattle.text.proofs.line.put_numbers.Goals as goal

pub loop-value-init : goal.loop-value-init
unfolding numbers further
loop-value-init c = put-nothing 0 c.args.buf.now (omega arith)

pub put_byte-at-requires : goal.put_byte-at-requires
put_byte-at-requires c =
    let zs = c.args.values.now in
    let room = rw take-length at (number-within zs c.loop-value.value-index (length zs) (omega arith) (omega arith)) in
    omega (arith, part-size c.loop-value.invariant, c.loop-value.invariant.answer, room, c.requires)

pub put_number-at-requires : goal.put_number-at-requires
put_number-at-requires c =
    let zs = c.args.values.now in
    let i = c.loop-value.value-index in
    let fits : FitsSigned w64 (get_or zs i (pos 0)) = search rules in
    let room = rw take-length at (number-within zs i (length zs) (omega arith) (omega arith)) in
    rw (to_z-of_z fits)
    (omega (arith, part-size (put-part c.loop-value.invariant c.put_byte-at.ensures), c.loop-value.invariant.answer, room, c.requires))

pub loop-value-preserved : goal.loop-value-preserved
loop-value-preserved c =
    let i = c.loop-value.value-index in
    let fits : FitsSigned w64 (get_or c.args.values.now i (pos 0)) = search rules in
    rw (numbers_more c.args.values.now i (omega arith))
    (rw append_assoc at (put-part (put-part c.loop-value.invariant c.put_byte-at.ensures) (rw (to_z-of_z fits) at c.put_number-at.ensures)))
