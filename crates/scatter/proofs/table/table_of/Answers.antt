-- `scatter::table::table_of` meets its contract: each part is the definition's.
use Rattle.scatter.proofs.Assembled.{all_small, zero-from, most-small, shift-below, assembled}
use Rattle.scatter.proofs.table.table_of.Goals as goal

pub largest_of-requires : goal.largest_of-requires
largest_of-requires c = zero-from c.args.n c.args.t c.requires.0 c.requires.1 c.scatter_of-scatter.ensures

pub shift_of-e-requires : goal.shift_of-e-requires
shift_of-e-requires c =
    most-small c.args.n c.args.t c.requires.0 c.requires.1 c.scatter_of-scatter.ensures c.largest_of.ensures

pub entries_of-entries-requires : goal.entries_of-entries-requires
entries_of-entries-requires c = (
  all_small c.args.n c.args.t c.requires.0 c.requires.1 c.scatter_of-scatter.ensures,
  zero-from c.args.n c.args.t c.requires.0 c.requires.1 c.scatter_of-scatter.ensures,
  shift-below c.args.n c.args.t c.requires.0 c.requires.1 c.scatter_of-scatter.ensures c.largest_of.ensures c.shift_of-e.ensures,
)

pub returns : goal.returns
returns c =
    assembled c.args.n c.args.t c.requires.0 c.requires.1 c.scatter_of-scatter.ensures c.largest_of.ensures c.shift_of-e.ensures _
    c.entries_of-entries.ensures
