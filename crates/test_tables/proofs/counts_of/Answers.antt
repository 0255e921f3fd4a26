-- `counts_of` meets its contract: each count that is drawn is within the range.
use Rattle.std.proofs.Common.{rules}
use Rattle.test_tables.proofs.Rooms.{room_of}
use Rattle.test_tables.proofs.counts_of.Goals as goal

pub returns : goal.returns
returns c = room_of _ _ _ c.from_fn.ensures.items.long (λ p h. let drawn = c.from_fn.ensures.items.at p 0 h in search rules)
