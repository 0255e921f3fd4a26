-- `solution::put_axes` meets its contract: the rows before this one stand at the front of the buffer.
use Rattle.std.proofs.Common.{◌≡◌, ℕ, ◌+◌, ◌-◌, ◌<◌, add-one, arith, length-take-le, get_or-take}
use Rattle.text.specs.laws.Put.{put-nothing, put-part}
use Rattle.field_axes.specs.inner.Solution.{used}
use Rattle.field_axes.proofs.Following.{length-row-used, room}
use Rattle.field_axes.proofs.solve.put_axes.Goals as goal

pub loop-numbers-init : goal.loop-numbers-init
unfolding used
loop-numbers-init c = put-nothing 0 c.args.out.now (omega arith)

-- how many numbers of a row are written
width : (n : ℕ) → n + 3 - 1 ≡ n + 2
width n = omega arith

pub put-at-requires : goal.put-at-requires
put-at-requires c =
    let n = c.args.n in
    let h : c.loop-numbers.numbers-index < n = omega (arith, length-take-le n c.args.axes.now (omega arith)) in
    rw (width n, get_or-take n c.args.axes.now c.loop-numbers.numbers-index _ h, length-row-used n _ c.requires.0 c.requires.1 _ h)
    (room n _ c.requires.0 c.requires.1 _ c.loop-numbers.invariant h c.requires.2)

pub loop-numbers-preserved : goal.loop-numbers-preserved
unfolding used
loop-numbers-preserved c =
    let n = c.args.n in
    let h : c.loop-numbers.numbers-index < n = omega (arith, length-take-le n c.args.axes.now (omega arith)) in
    rw add-one (put-part c.loop-numbers.invariant
    (rw (width n, get_or-take n c.args.axes.now c.loop-numbers.numbers-index _ h) at c.put-at.ensures))
