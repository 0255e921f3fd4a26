-- `panel::position::panel_after` meets its contract: a place of the list is small.
use Prim.Native.Nat.{◌/◌}
use native.Mathlib.Nat.{div-le_self}
use native.Mathlib.Omega.{arith}
use Rattle.panel.specs.Panels.{width}
use Rattle.panel.proofs.Small.{count_small}
use Rattle.panel.proofs.position.panel_after.Goals as goal

pub entry_at-requires : goal.entry_at-requires
entry_at-requires c =
    let i = c.args.i in
    let w = width c.args.b in
    (omega (arith, c.requires.0), omega (arith, div-le_self (i / w) w, div-le_self i w, c.requires.1, count_small c.args.b c.requires.0))
