-- `generator::axes` meets its contract, a row at a time.
use Rattle.std.proofs.Common.{◌+◌, ◌*◌, ◌^◌, sym, subst}
use Rattle.turn.specs.Size.{Small}
use Rattle.test_turns.specs.Generator.{axes_of, row_of}
use Rattle.test_turns.specs.Ranges.{axes_of-small}
use Rattle.test_turns.proofs.Gathered.{gathered}
use Rattle.test_turns.proofs.generator.axes.Goals as goal

pub returns : goal.returns
unfolding axes_of
returns c =
    let e =
    gathered (λ i. row_of (c.args.base + 64 * (i + 1)) (2 ^ 30 + 448)) c.row.ensures c.row-2.ensures c.row-3.ensures c.row-4.ensures
    c.row-5.ensures c.row-6.ensures c.row-7.ensures c.row-8.ensures in
    (e, subst Small (sym e) (axes_of-small _))
