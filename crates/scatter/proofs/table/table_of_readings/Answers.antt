-- `scatter::table::table_of_readings` meets its contract: the sums of readings within the ranges are bounded, and give the samples' S.
use Rattle.std.proofs.Common.{ap, ◌∙◌}
use Rattle.sums.specs.laws.Bounds.{readings-bounded}
use Rattle.scatter.specs.Table.{table_from}
use Rattle.scatter.specs.inner.BySums.{scatter_by_sums}
use Rattle.scatter.specs.laws.BySums.{table-by-sums}
use Rattle.scatter.proofs.table.table_of_readings.Goals as goal

pub table_of-requires : goal.table_of-requires
table_of-requires c = (c.requires.channels, rw c.sums_of.ensures (readings-bounded _ _ _ c.requires))

pub returns : goal.returns
returns c =
    c.table_of.ensures ∙ ap (λ t. table_from (scatter_by_sums c.args.readings.now.n t)) c.sums_of.ensures
    ∙ table-by-sums _ c.args.readings.now.n c.requires.channels
