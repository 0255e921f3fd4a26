-- `panel::position::position_in` meets its contract: each entry is at most b in size.
use native.Mathlib.Omega.{arith}
use Rattle.std.proofs.lemmas.Int.{ints}
use Rattle.panel.specs.laws.Places.{small}
use Rattle.panel.proofs.position.position_in.Goals as goal

pub place_of-requires : goal.place_of-requires
place_of-requires c = let s = small c.args.b c.args.x c.requires.1 in (c.requires.0, omega (arith, ints, s.a11))

pub place_of-requires-2 : goal.place_of-requires-2
place_of-requires-2 c = let s = small c.args.b c.args.x c.requires.1 in (c.requires.0, omega (arith, ints, s.a12))

pub place_of-requires-3 : goal.place_of-requires-3
place_of-requires-3 c = let s = small c.args.b c.args.x c.requires.1 in (c.requires.0, omega (arith, ints, s.a22))
