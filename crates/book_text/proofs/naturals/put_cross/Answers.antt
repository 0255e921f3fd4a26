-- `naturals::put_cross` meets its contract.
use Rattle.std.proofs.Common.{arith}
use Rattle.text.specs.Line.{further}
use Rattle.text.specs.laws.Put.{part-size, put-nothing, put-part}
use Rattle.book_text.specs.Answers.{cross_rows}
use Rattle.book_text.specs.inner.Played.{naturals}
use Rattle.book_text.proofs.Paging.{row_read, row-size, rows_more}
use Rattle.book_text.proofs.naturals.put_cross.Goals as goal

pub loop-i-init : goal.loop-i-init
unfolding naturals further cross_rows
loop-i-init c = (omega arith, put-nothing 0 c.args.buf.now (omega arith))

pub put_naturals-at-requires : goal.put_naturals-at-requires
put_naturals-at-requires c =
    let size = row-size c.args.n c.args.cross.now c.loop-i.i c.requires.1 c.requires.0 c.loop-i-test.true in
    (omega arith, omega (arith, part-size c.loop-i.invariant.1))

pub loop-i-preserved : goal.loop-i-preserved
loop-i-preserved c =
    let n = c.args.n in
    let cross = c.args.cross.now in
    let i = c.loop-i.i in
    let put = c.put_naturals-at.ensures in
    let size = row-size n cross i c.requires.1 c.requires.0 c.loop-i-test.true in (
      omega (arith, put.bounded, size),
      rw (rows_more n cross i, ← row_read n cross i c.requires.1 c.requires.0 c.loop-i-test.true)
          (put-part c.loop-i.invariant.1 put.puts),
    )
