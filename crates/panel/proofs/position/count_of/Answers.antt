-- `panel::position::count_of` meets its contract: for b of at most 8 the cube fits.
use native.Mathlib.Omega.{arith}
use Rattle.panel.proofs.Small.{count_small}
use Rattle.panel.proofs.position.count_of.Goals as goal

pub pow-requires : goal.pow-requires
pow-requires c = omega (arith, count_small c.args.b c.requires)
