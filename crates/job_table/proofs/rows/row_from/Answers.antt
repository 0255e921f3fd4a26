-- The eight numbers stand after the first, and two noughts after them.
use Rattle.std.proofs.Common.{◌≡◌, ℕ, ◌+◌, ◌-◌, ◌≤◌, List, ℤ, pos, ◌∙◌, sym, arith, length, length-take-le, length-drop, take, drop, get_or, w64}
use Rattle.std.proofs.lemmas.List.{get_or-drop, get_or-take}
use Rattle.std.proofs.Math.Seq.{ext_get_or}
use mir.Facts.{to_z_pos}
use Rattle.integer.specs.Tabulate.{tabulate}
use Rattle.integer.specs.laws.Tabulate.{get_d_tabulate, length-tabulate}
use Rattle.job_table.proofs.rows.row_from.Goals as goal

part : (sums : List ℤ) (at : ℕ) → at + 8 ≤ length sums → take 8 (drop at sums) ≡ tabulate 8 (λ j. get_or sums (at + j) (pos 0))
part sums at h =
    let long : length (take 8 (drop at sums)) ≡ 8 = length-take-le 8 (drop at sums) (omega (arith, length-drop at sums)) in
    ext_get_or (pos 0) (take 8 (drop at sums)) (tabulate 8 (λ j. get_or sums (at + j) (pos 0))) (long ∙ sym (length-tabulate 8 _))
    (λ k l.
    get_or-take 8 (drop at sums) k (pos 0) (omega arith) ∙ get_or-drop at sums k (pos 0) ∙ sym (get_d_tabulate 8 _ k (pos 0) (omega arith)))

pub returns : goal.returns
returns c =
    let eight : c.args.at + 8 - c.args.at ≡ 8 = omega arith in
    let copied = rw eight at c.copy_from_slice.ensures.after in
    rw (to_z_pos w64 {n = c.args.number} (omega arith), copied, part c.args.sums.now c.args.at (omega arith))
