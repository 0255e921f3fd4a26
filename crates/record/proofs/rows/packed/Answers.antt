use Rattle.std.proofs.Common.{rules, ◌≡◌, ◌∙◌, [], arith, get_or, pos, w64, to_z-of_z}
use mir.Val.{SFits}
use Rattle.turn.specs.Turn.{at}
use Rattle.turn.specs.laws.InUse.{in_use-inside}
use Rattle.record.proofs.FlatFilled.{flat-all, flat-cong, flat-none, flat-one, flat-row}
use Rattle.record.proofs.rows.packed.Goals as goal

pub loop-i-init : goal.loop-i-init
loop-i-init c = flat-none 8 _

pub loop-j-preserved : goal.loop-j-preserved
unfolding at
loop-j-preserved c =
    let f : SFits w64 (get_or (get_or c.args.b.now c.loop-i.i []) c.loop-j.j (pos 0)) = search rules in
    λ e. rw (c.loop-j.invariant e, to_z-of_z f) (flat-one 8 (at c.args.b.now) c.loop-i.i c.loop-j.j (omega arith) (omega arith))

pub loop-i-preserved : goal.loop-i-preserved
loop-i-preserved c =
    let e : c.loop-j.j ≡ 8 = omega arith in
    (rw e at (c.loop-j.invariant c.loop-i.invariant)) ∙ flat-row 8 _ c.loop-i.i (omega arith)

pub returns : goal.returns
returns c =
    let e : c.loop-i.i ≡ 8 = omega arith in
    (rw e at c.loop-i.invariant) ∙ flat-all 8 _ ∙ flat-cong _ _ (λ i j h l. in_use-inside 8 _ i j h l)
