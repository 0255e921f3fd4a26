use Rattle.std.proofs.Common.{rules, ◌≡◌, arith, [], pos, get_or, w64}
use mir.Val.{SFits}
use Rattle.integer.specs.laws.Word.{word}
use Rattle.turn.proofs.Whole.{first_read, no_row, rows_more, second-read}
use Rattle.turn.specs.Turn.{at}
use Rattle.turn.proofs.mirror.Goals as goal

pub loop-i-init : goal.loop-i-init
loop-i-init c = no_row _ _ _ c.requires.3

pub loop-i-preserved : goal.loop-i-preserved
unfolding at
loop-i-preserved c =
    let f : SFits w64 (get_or (get_or c.loop-i.a c.args.p []) c.loop-i.i (pos 0)) = search rules in
    let g : SFits w64 (get_or (get_or c.loop-i.a c.args.q []) c.loop-i.i (pos 0)) = search rules in
    rows_more _ _ _ _ _ c.loop-i.invariant (omega arith) c.requires.0 (omega arith) c.requires.4 _ _
    (word f (first_read _ _ _ _ _ c.loop-i.invariant (omega arith) c.requires.0 (omega arith) c.requires.4))
    (word g (second-read _ _ _ _ _ c.loop-i.invariant (omega arith) c.requires.0 (omega arith) c.requires.4))

pub returns : goal.returns
returns c =
    let e : c.loop-i.i ≡ c.args.n = omega arith in
    (rw e at c.loop-i.invariant).is
