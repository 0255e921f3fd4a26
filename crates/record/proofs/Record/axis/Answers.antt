use Rattle.std.proofs.Common.{refl, sym, ◌∙◌}
use Rattle.ledger.specs.Call.{axis}
use Rattle.record.proofs.Benches.{no-bench, of-bench}
use Rattle.record.specs.Record.{row_to}
use Rattle.record.specs.Solver.{accepted_of_under, row_of}
use Rattle.record.specs.laws.Named.{query-leaves}
use Rattle.record.proofs.Record.axis.Goals as goal

pub returns-then-not-is_bench : goal.returns-then-not-is_bench
unfolding row_to
returns-then-not-is_bench c =
    let b = sym c.is_bench.ensures ∙ c.if-not-is_bench.true in
    let done = no-bench c.args.self c.args.bench (axis c.args.i) c.requires b _ _ (rw c.from.ensures) refl in
    record { answers = done.answers; row = rw (c.from.ensures, b); leaves = done.leaves; keeps = done.keeps }

pub returns : goal.returns
unfolding row_to row_of accepted_of_under
returns c =
    let b = sym c.is_bench.ensures ∙ c.if-not-is_bench.false in
    let done = of-bench c.args.self c.args.bench (axis c.args.i) c.requires b _ _ _ _ c.axis-answer.ensures.0
    (sym (query-leaves c.args.self.solver (axis c.args.i) refl)) refl c.left.ensures in
    record { answers = done.answers; row = c.axis-answer.ensures.1 ∙ rw b; leaves = done.leaves; keeps = done.keeps }
