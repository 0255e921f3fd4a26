use borrow.Author.Tests.{le-leb, lt-leb}
use Rattle.integer.specs.Within.{within}
use Rattle.ledger.specs.Bench.{is_bench}
use Rattle.record.proofs.is_bench.Goals as goal

pub returns-then-bench-ge1 : goal.returns-then-bench-ge1
unfolding is_bench within
returns-then-bench-ge1 c = rw (le-leb 1 c.args.bench c.if-bench-ge1.true)

pub returns-else-bench-ge1 : goal.returns-else-bench-ge1
unfolding is_bench within
returns-else-bench-ge1 c = rw (lt-leb 1 c.args.bench c.if-bench-ge1.false)
