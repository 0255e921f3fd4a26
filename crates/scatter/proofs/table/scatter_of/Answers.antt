-- `scatter::table::scatter_of` meets its contract: the places come row after row, and those past the last row stay 0.
use Rattle.std.specs.Prelude.{refl, ◌+◌, ◌*◌}
use Rattle.std.proofs.Common.{arith}
use Rattle.integer.specs.laws.Filled.{filled_more}
use Rattle.limits.specs.laws.Channels.{place-below}
use Rattle.scatter.specs.laws.Bounds.{number-times-cross, channel-times-channel}
use Rattle.scatter.proofs.Places.{S-stored, all-rows}
use Rattle.scatter.proofs.table.scatter_of.Goals as goal

pub difference-requires : goal.difference-requires
difference-requires c = (
  omega (arith, number-times-cross c.args.t c.requires.1 c.place_of-place.result),
  omega (arith, channel-times-channel c.args.t c.requires.1 c.loop-i.i c.loop-j.j),
)

pub loop-j-preserved : goal.loop-j-preserved
loop-j-preserved c =
    let i = c.loop-i.i in
    let j = c.loop-j.j in
    filled_more c.loop-j.invariant (i * c.args.n + j) (i * c.args.n + (j + 1)) _ refl (omega arith)
    (omega (arith, place-below c.args.n i j c.requires.0 c.loop-i-test.true c.loop-j-test.true, c.loop-j.invariant.size))
    (S-stored c.args.n c.args.t c.requires.1 i j c.loop-i-test.true c.loop-j-test.true _ _ _ c.difference.ensures c.place_of-place.ensures refl)

pub returns : goal.returns
returns c = all-rows c.args.n c.args.t c.loop-i.i _ c.requires.0 c.loop-i.invariant refl (omega arith)
