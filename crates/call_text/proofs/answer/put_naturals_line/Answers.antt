-- `put_naturals_line` meets its contract: the tag, the numbers and the line feed, each where the last one ended.
use Rattle.std.proofs.Common.{arith}
use Rattle.text.specs.laws.Put.{part-size}
use Rattle.call_text.proofs.Printing.{line-begun, line-on, line-put}
use Rattle.call_text.proofs.answer.put_naturals_line.Goals as goal

pub loop-x-init : goal.loop-x-init
loop-x-init c = line-begun _ c.put_byte-at.ensures

pub loop-x-preserved : goal.loop-x-preserved
loop-x-preserved c = line-on _ _ c.loop-x.invariant c.loop-x-test.true c.put_natural_field-at.ensures.puts c.put_natural_field-at.ensures.bounded

pub put_natural_field-at-requires : goal.put_natural_field-at-requires
put_natural_field-at-requires c = omega (arith, c.loop-x.invariant.bounded, part-size c.loop-x.invariant.puts)

pub put_byte-requires : goal.put_byte-requires
put_byte-requires c = omega (arith, c.loop-x.invariant.bounded, part-size c.loop-x.invariant.puts)

pub returns : goal.returns
returns c = line-put _ _ c.loop-x.invariant (omega arith) c.put_byte.ensures
