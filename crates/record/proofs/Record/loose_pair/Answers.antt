use Rattle.std.proofs.Common.{rules, ◌≡◌, ◌∙◌, refl, sym}
use Rattle.ledger.specs.Call.{loose_pair}
use Rattle.record.proofs.Benches.{named}
use Rattle.record.specs.Solver.{accepted_of_under, answer_of}
use Rattle.record.specs.laws.Loose.{loose-done}
use Rattle.record.specs.laws.Named.{query-leaves}
use Rattle.record.proofs.Record.loose_pair.Goals as goal

pub returns : goal.returns
unfolding accepted_of_under
returns c =
    let s = c.args.self.solver in
    let call = loose_pair c.args.t in
    loose-done (named c.args.self c.args.bench call c.requires _ _
    (λ done p.
    let asked : (done.answer ≡ answer_of s call) × (done.next ≡ s) = search rules in
    (asked.0, asked.1 ∙ sym (query-leaves s call refl)))
    c.named.ensures.outside c.named.ensures.of_bench)
