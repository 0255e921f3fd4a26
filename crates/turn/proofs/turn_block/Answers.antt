use Rattle.std.proofs.Common.{rules, ◌≡◌, ap, ◌∙◌, ℤ, w64, to_z-of_z}
use mir.Val.{SFits}
use Rattle.integer.specs.laws.Word.{word}
use Rattle.choice.specs.Widest.{widest}
use Rattle.turn.specs.inner.InPlace.{block_of}
use Rattle.turn.specs.Rotation.{first, second}
use Rattle.turn.specs.inner.Rotation.{inverse}
use Rattle.turn.specs.inner.Size.{passed}
use Rattle.turn.specs.Turn.{at}
use Rattle.turn.specs.declared.pair.Rotation.{Rotation}
use Rattle.turn.proofs.Back.{back-of, inverse-first}
use Rattle.turn.proofs.Pass.{room}
use Rattle.turn.proofs.turn_block.Goals as goal

pub turned-pp-requires : goal.turned-pp-requires
unfolding at
turned-pp-requires c =
    let s = c.args in
    let a = at s.a.now in
    let fpp : SFits w64 (a s.p s.p) = search rules in
    let fpq : SFits w64 (a s.p s.q) = search rules in (
      c.requires.2.positive,
      rw (to_z-of_z fpp, to_z-of_z fpq)
          (room s.r (passed s.r widest) (a s.p s.p) (a s.p s.q) c.requires.3.pp c.requires.3.pq c.requires.2.second-pass),
    )

pub turned-pq-requires : goal.turned-pq-requires
unfolding at
turned-pq-requires c =
    let s = c.args in
    let a = at s.a.now in
    let fpp : SFits w64 (a s.p s.p) = search rules in
    let fpq : SFits w64 (a s.p s.q) = search rules in
    let back = back-of s.r _ c.requires.2 c.inverse-back.ensures in (
      back.turns.positive,
      rw (to_z-of_z fpq, to_z-of_z fpp)
          (room c.inverse-back.result (passed s.r widest) (a s.p s.q) (a s.p s.p) c.requires.3.pq c.requires.3.pp
          (rw back.same at back.turns.second-pass)),
    )

pub turned-qq-requires : goal.turned-qq-requires
unfolding at
turned-qq-requires c =
    let s = c.args in
    let a = at s.a.now in
    let fqp : SFits w64 (a s.q s.p) = search rules in
    let fqq : SFits w64 (a s.q s.q) = search rules in
    let back = back-of s.r _ c.requires.2 c.inverse-back.ensures in (
      back.turns.positive,
      rw (to_z-of_z fqq, to_z-of_z fqp)
          (room c.inverse-back.result (passed s.r widest) (a s.q s.q) (a s.q s.p) c.requires.3.qq c.requires.3.qp
          (rw back.same at back.turns.second-pass)),
    )

-- the second entry of a pair, from the inverse rotation
second-of : (r t : Rotation) (x y z : ℤ) → t ≡ inverse r → z ≡ first t y x → z ≡ second r x y
second-of r t x y z e h = h ∙ ap (λ t. first t y x) e ∙ inverse-first r x y

pub returns : goal.returns
unfolding block_of at
returns c =
    let s = c.args in
    let a = at s.a.now in
    let fpp : SFits w64 (a s.p s.p) = search rules in
    let fpq : SFits w64 (a s.p s.q) = search rules in
    let fqp : SFits w64 (a s.q s.p) = search rules in
    let fqq : SFits w64 (a s.q s.q) = search rules in
    let fx : SFits w64 c.turned-pp.result = search rules in
    let fy : SFits w64 c.turned-pq.result = search rules in
    let fz : SFits w64 c.turned-qq.result = search rules in
    rw (
      word fx (rw (to_z-of_z fpp, to_z-of_z fpq) at c.turned-pp.ensures),
      word fy (second-of s.r _ _ _ _ c.inverse-back.ensures (rw (to_z-of_z fpp, to_z-of_z fpq) at c.turned-pq.ensures)),
      word fz (second-of s.r _ _ _ _ c.inverse-back.ensures (rw (to_z-of_z fqq, to_z-of_z fqp) at c.turned-qq.ensures)),
    ) at c.put_block.ensures
