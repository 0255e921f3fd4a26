use Rattle.std.proofs.Common.{rules}
use Rattle.ledger.specs.Call.{load_samples}
use Rattle.record.proofs.Benches.{named}
use Rattle.record.specs.inner.Solved.{Solved}
use Rattle.record.proofs.Record.load_samples.Goals as goal

pub returns : goal.returns
returns c =
    let call = load_samples c.args.samples.now.n c.args.samples.now.dilutions.now c.args.samples.now.counts.now in
    named c.args.self c.args.bench call c.requires _ _
    (λ done p. let solved : Solved c.args.self.solver call done.answer done.next = search rules in (solved.answers, solved.leaves))
    c.named.ensures.outside c.named.ensures.of_bench
