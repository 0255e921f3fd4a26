-- The combination is held, and its rounding is the definition's.
use Rattle.std.proofs.Common.{rules, arith, w64, to_z-of_z}
use mir.Val.{SFits}
use Rattle.turn.specs.Rotation.{first}
use Rattle.turn.proofs.Combination.{Words, sum, sum-held, sum-size}
use Rattle.turn.proofs.pair.turned.Goals as goal

pub overflow_add-r : goal.overflow_add-r
overflow_add-r c =
    let words : Words c.args.r.c c.args.x c.args.r.s c.args.y =
    record { a-held = search rules; x-held = search rules; b-held = search rules; y-held = search rules; room = omega arith } in
    rw (sum _ _ _ _ words) (sum-held _ _ _ _ words)

pub nearest-requires : goal.nearest-requires
nearest-requires c =
    let words : Words c.args.r.c c.args.x c.args.r.s c.args.y =
    record { a-held = search rules; x-held = search rules; b-held = search rules; y-held = search rules; room = omega arith } in (
      c.requires.0,
      omega arith,
      rw (sum _ _ _ _ words, to_z-of_z (sum-held _ _ _ _ words)) (omega (arith, sum-size c.args.r.c c.args.x c.args.r.s c.args.y)),
    )

pub returns : goal.returns
unfolding first
returns c =
    let words : Words c.args.r.c c.args.x c.args.r.s c.args.y =
    record { a-held = search rules; x-held = search rules; b-held = search rules; y-held = search rules; room = omega arith } in
    let f : SFits w64 c.nearest.result = search rules in
    rw (to_z-of_z f, c.nearest.ensures, sum _ _ _ _ words, to_z-of_z (sum-held _ _ _ _ words))
