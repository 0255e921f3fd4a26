-- `naturals::put_naturals` meets its contract.
use Rattle.std.proofs.Common.{arith}
use Rattle.text.specs.Line.{further}
use Rattle.text.specs.laws.Put.{part-size, put-nothing, put-part}
use Rattle.book_text.specs.inner.Played.{naturals}
use Rattle.book_text.proofs.Paging.{naturals-more}
use Rattle.book_text.proofs.naturals.put_naturals.Goals as goal

pub loop-value-init : goal.loop-value-init
unfolding naturals further
loop-value-init c = (omega arith, put-nothing 0 c.args.buf.now (omega arith))

pub put_natural_field-at-requires : goal.put_natural_field-at-requires
put_natural_field-at-requires c = omega (arith, part-size c.loop-value.invariant.1)

pub loop-value-preserved : goal.loop-value-preserved
loop-value-preserved c =
    let put = c.put_natural_field-at.ensures in (
      omega (arith, put.bounded),
      rw (naturals-more c.args.values.now c.loop-value.value-index c.loop-value-test.true) (put-part c.loop-value.invariant.1 put.puts),
    )
