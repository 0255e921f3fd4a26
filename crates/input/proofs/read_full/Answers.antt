-- `input::read_full` meets its contract: each read goes on where the last one ended.
use Rattle.std.proofs.Common.{rules}
use Rattle.input.proofs.Front.{read_none, read_on}
use Rattle.input.proofs.read_full.Goals as goal
use Rattle.input.proofs.read_full.Goals.{in-Ok, in-Err+else-ne}

pub loop-preserved : goal.loop-preserved
loop-preserved g c = (
  search rules,
  search rules,
  elim c.match-read.branch [
    | in-Ok w ↦ rw w.filled-is (read_on _ _ _ _ _ _ _ _ c.loop.invariant.1 w.in-Ok.ensures.bound.0 c.loop.invariant.2 w.in-Ok.ensures.bytes.0)
    | in-Err+else-ne w ↦ rw w.filled-is (read_none _ _ _ _ _ _ _ c.loop.invariant.1 c.loop.invariant.2 w.in-Err.ensures.bytes)
  ],
)
