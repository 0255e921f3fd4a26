-- `scatter::table::entries_of` meets its contract: place after place is the rounded number, and the places from `size` on stay 0.
use Rattle.std.specs.Prelude.{refl, ◌+◌}
use Rattle.std.proofs.Common.{arith}
use Rattle.integer.specs.laws.Filled.{filled_more, filled-skip, filled-all}
use Rattle.integer.specs.laws.Tabulate.{length-tabulate}
use Rattle.scatter.proofs.Places.{nearest-asks, rounded, rounded-zero}
use Rattle.scatter.proofs.table.entries_of.Goals as goal

pub nearest-requires : goal.nearest-requires
nearest-requires c = nearest-asks c.args.s.now c.requires.0 c.args.e c.requires.2 c.loop-p.p

pub loop-p-preserved : goal.loop-p-preserved
loop-p-preserved c =
    let p = c.loop-p.p in
    filled_more c.loop-p.invariant p (p + 1) _ refl (omega arith) (omega (arith, c.loop-p.invariant.size, c.requires.1.most))
    (rounded c.args.s.now c.requires.0 c.args.e c.requires.2 p _ c.nearest.ensures (omega (arith, c.requires.1.most)))

pub returns : goal.returns
returns c =
    filled-all
    (filled-skip c.loop-p.invariant 64 (omega (arith, c.requires.1.most))
    (λ p h b. rounded-zero c.args.s.now c.args.e p (c.requires.1.zero p (omega arith)) b))
    (length-tabulate 64 _)
    (omega arith)
