use Rattle.std.proofs.Common.{◌≡◌, ◌∙◌, arith, w64, to_z-of_z}
use mir.Val.{SFits}
use Rattle.record.proofs.Filled.{rows-one, rows_all, rows_none, rows_row}
use Rattle.record.proofs.load.load_matrix.Goals as goal

pub loop-i-init : goal.loop-i-init
loop-i-init c = c.requires.0 ∙ rows_none _ _

pub loop-j-preserved : goal.loop-j-preserved
loop-j-preserved c =
    let f : SFits w64 c.loaded_entry.result = record { sfits = omega (arith, c.loaded_entry.type_inv) } in
    λ e. rw (c.loop-j.invariant e, to_z-of_z f, c.loaded_entry.ensures) (rows-one _ _ c.loop-i.i c.loop-j.j (omega arith) (omega arith))

pub loop-i-preserved : goal.loop-i-preserved
loop-i-preserved c =
    let e : c.loop-j.j ≡ c.args.n = omega arith in
    (rw e at (c.loop-j.invariant c.loop-i.invariant)) ∙ rows_row c.args.n _ c.loop-i.i (omega arith)

pub returns : goal.returns
returns c =
    let e : c.loop-i.i ≡ c.args.n = omega arith in
    (rw e at c.loop-i.invariant) ∙ rows_all c.args.n _
