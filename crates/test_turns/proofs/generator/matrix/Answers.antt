-- `generator::matrix` meets its contract, a row at a time.
use Rattle.std.proofs.Common.{◌+◌, sym, subst}
use Rattle.choice.specs.Widest.{widest}
use Rattle.turn.specs.Size.{Small}
use Rattle.turn.specs.inner.Size.{SymmetricRows}
use Rattle.test_turns.specs.Generator.{matrix_of, row_of, offset}
use Rattle.test_turns.specs.Ranges.{matrix_of-small, matrix_of-symmetric}
use Rattle.test_turns.proofs.Gathered.{gathered}
use Rattle.test_turns.proofs.generator.matrix.Goals as goal

pub returns : goal.returns
unfolding matrix_of
returns c =
    let e =
    gathered (λ i. row_of (c.args.base + offset i) widest) c.row.ensures c.row-2.ensures c.row-3.ensures c.row-4.ensures c.row-5.ensures
    c.row-6.ensures c.row-7.ensures c.row-8.ensures in
    (e, subst Small (sym e) (matrix_of-small _), subst SymmetricRows (sym e) (matrix_of-symmetric _))
