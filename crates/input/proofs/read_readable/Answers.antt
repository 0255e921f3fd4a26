-- `input::read_readable` meets its contract: each read goes on where the last one ended.
use Rattle.std.proofs.Common.{rules}
use Rattle.input.proofs.Front.{read_on}
use Rattle.input.proofs.read_readable.Goals as goal

pub loop-at-preserved : goal.loop-at-preserved
loop-at-preserved g c = (
  search rules,
  search rules,
  read_on _ _ _ _ _ _ _ _ c.loop-at.invariant.1 c.in-Ok.ensures.bound.0 c.loop-at.invariant.2 c.in-Ok.ensures.bytes.0,
)
