-- `panel::lines::put_text` meets its contract.
use Prim.Native.Nat.{◌<◌}
use mathlib.Core.Path.{◌≡◌, ap}
use native.Mathlib.Omega.{arith}
use Rattle.text.specs.laws.Lines.{line-within, lines_more, lines_none}
use Rattle.text.specs.laws.Put.{part-size, put-nothing, put-part}
use Rattle.panel.specs.Panels.{count_of}
use Rattle.panel.specs.Text.{panel_line}
use Rattle.panel.specs.laws.Places.{small-within}
use Rattle.panel.specs.laws.Text.{after-few, line_at, text-lines}
use Rattle.panel.proofs.lines.put_text.Goals as goal

pub loop-i-init : goal.loop-i-init
loop-i-init c = rw (lines_none (line_at c.args.b)) (put-nothing 0 c.args.buf.now (omega arith))

pub put_line-at-requires : goal.put_line-at-requires
put_line-at-requires c =
    let b = c.args.b in
    let i = c.loop-i.i in
    let below : i < count_of b = omega (arith, c.count_of-lines.ensures) in
    let text = rw (text-lines b) at c.requires.1 in (
      rw c.panel_after.ensures (small-within 8 _ (after-few b c.requires.0 i below)),
      rw (ap panel_line c.panel_after.ensures)
          (omega (arith, c.loop-i.invariant.answer, line-within (line_at b) (count_of b) i below, text, part-size c.loop-i.invariant)),
    )

pub loop-i-preserved : goal.loop-i-preserved
loop-i-preserved c =
    rw (lines_more (line_at c.args.b) c.loop-i.i)
    (put-part c.loop-i.invariant (rw (ap panel_line c.panel_after.ensures) at c.put_line-at.ensures))

pub returns : goal.returns
returns c =
    let e : c.loop-i.i ≡ count_of c.args.b = omega (arith, c.count_of-lines.ensures) in
    rw (text-lines c.args.b) (rw e at c.loop-i.invariant)
