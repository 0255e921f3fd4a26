use Rattle.std.proofs.Common.{rules, ◌≡◌, ◌∙◌, ◌+◌, ◌*◌, refl, arith, lt-ltb, get_or, pos, w64, to_z-of_z}
use mir.Val.{SFits}
use Rattle.record.specs.Flat.{entries_of, kept_entry}
use Rattle.turn.specs.Turn.{eight}
use Rattle.turn.specs.laws.Eight.{eight-cong, front-more}
use Rattle.record.proofs.rows.row.Goals as goal

pub loop-j-init : goal.loop-j-init
unfolding eight
loop-j-init c = refl

pub loop-j-preserved : goal.loop-j-preserved
unfolding kept_entry
loop-j-preserved c =
    let f : SFits w64 (get_or c.args.a.now (8 * c.args.i + c.loop-j.j) (pos 0)) = search rules in
    rw c.loop-j.invariant (front-more (kept_entry c.args.a.now c.args.i) (pos 0) c.loop-j.j _ (omega arith) (to_z-of_z f))

pub returns : goal.returns
unfolding entries_of
returns c =
    let e : c.loop-j.j ≡ 8 = omega arith in
    (rw e at c.loop-j.invariant) ∙ eight-cong (λ k l. rw (lt-ltb k 8 l))
