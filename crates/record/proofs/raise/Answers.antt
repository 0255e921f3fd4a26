use Rattle.std.proofs.Common.{◌-◌, ap, arith, set}
use Rattle.integer.specs.laws.Within.{is_within}
use Rattle.ledger.specs.Bench.{is_bench}
use Rattle.limits.specs.Limits.{benches}
use Rattle.record.specs.Record.{raised}
use Rattle.record.proofs.raise.Goals as goal

pub overflow_sub-at : goal.overflow_sub-at
unfolding is_bench
overflow_sub-at c = omega (arith, is_within 1 benches c.args.bench c.requires)

pub bounds-counts-at : goal.bounds-counts-at
unfolding is_bench
bounds-counts-at c = omega (arith, is_within 1 benches c.args.bench c.requires)

pub bounds-counts-at-2 : goal.bounds-counts-at-2
unfolding is_bench
bounds-counts-at-2 c = omega (arith, is_within 1 benches c.args.bench c.requires)

pub offset_bounds-counts-at : goal.offset_bounds-counts-at
unfolding is_bench
offset_bounds-counts-at c = record { fits = omega (arith, is_within 1 benches c.args.bench c.requires) }

pub offset_bounds-counts-at-2 : goal.offset_bounds-counts-at-2
unfolding is_bench
offset_bounds-counts-at-2 c = record { fits = omega (arith, is_within 1 benches c.args.bench c.requires) }

pub returns : goal.returns
unfolding raised
returns c = ap (set c.args.counts (c.args.bench - 1)) c.one_more.ensures
