use Rattle.std.proofs.Common.{rules, ◌+◌, ◌*◌, ap, arith, pos, get_or, w64, of_z}
use mir.Val.{SFits}
use Rattle.integer.specs.Matrix.{matrix_of}
use Rattle.integer.specs.laws.Word.{same_bits}
use Rattle.record.proofs.Checks.{all-fails, all_more, equal-no, equal-yes, mirrored}
use Rattle.record.proofs.load.row_mirrored.Goals as goal

pub returns-then-numbers-i : goal.returns-then-numbers-i
unfolding matrix_of
returns-then-numbers-i c =
    let s = c.args in
    all-fails (mirrored (matrix_of s.n s.numbers.now) s.i) s.i c.loop-j.j (omega arith) (equal-no _ _ (λ e. c.if-numbers-i.true (ap (of_z w64) e)))

pub loop-j-preserved : goal.loop-j-preserved
unfolding matrix_of
loop-j-preserved c =
    let s = c.args in
    let j = c.loop-j.j in
    let f : SFits w64 (get_or s.numbers.now (s.i * s.n + j) (pos 0)) = search rules in
    let g : SFits w64 (get_or s.numbers.now (j * s.n + s.i) (pos 0)) = search rules in
    all_more (mirrored (matrix_of s.n s.numbers.now) s.i) j c.loop-j.invariant (equal-yes _ _ (same_bits f g c.if-numbers-i.false))
