-- One number more, after its tab.
use Rattle.std.proofs.Common.{refl, ap, arith, length, length-append, get_or, pos, w64, FitsSigned, rules}
use mir.Facts.{to_z-of_z}
use Rattle.text.specs.Line.{further, numbers}
use Rattle.text.specs.laws.Numbers.{numbers_more}
use Rattle.text.proofs.line.numbers_length.Goals as goal

pub loop-value-init : goal.loop-value-init
unfolding numbers further
loop-value-init c = record { exact = refl; bounded = omega arith }

pub loop-value-preserved : goal.loop-value-preserved
loop-value-preserved c =
    let i = c.loop-value.value-index in
    let fits : FitsSigned w64 (get_or c.args.values.now i (pos 0)) = search rules in
    let sized = rw (to_z-of_z fits) at c.number_length.ensures in
    let more = simp length-append at (ap length (numbers_more c.args.values.now i (omega arith))) in
    record { exact = omega (arith, more, sized.exact, c.loop-value.invariant.exact); bounded = omega (arith, sized.bounded) }
