use Rattle.std.proofs.Common.{arith}
use Rattle.record.proofs.Orders.{pair-ordered}
use Rattle.record.proofs.work.Work.place.Goals as goal

pub pair-requires : goal.pair-requires
pair-requires c =
    let e = c.place_of-place.ensures in (
      omega (arith, e.0, e.1, pair-ordered _ _ _ _ c.requires.0),
      omega (arith, c.if-self-place.false),
      c.requires.1,
    )
