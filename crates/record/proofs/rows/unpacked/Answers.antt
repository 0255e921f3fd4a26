use Rattle.std.proofs.Common.{◌≡◌, ◌∙◌, refl, arith, lt-ltb, pos}
use Rattle.record.specs.Flat.{entries_of, rows_of}
use Rattle.turn.specs.Turn.{eight}
use Rattle.turn.specs.laws.Eight.{eight-cong, front-more}
use Rattle.record.proofs.rows.unpacked.Goals as goal

pub loop-i-init : goal.loop-i-init
unfolding eight
loop-i-init c = refl

pub loop-i-preserved : goal.loop-i-preserved
loop-i-preserved c =
    rw c.loop-i.invariant (front-more (entries_of c.args.a.now) (eight (λ j. pos 0)) c.loop-i.i _ (omega arith) c.row.ensures)

pub returns : goal.returns
unfolding rows_of
returns c =
    let e : c.loop-i.i ≡ 8 = omega arith in
    (rw e at c.loop-i.invariant) ∙ eight-cong (λ k l. rw (lt-ltb k 8 l))
