use Rattle.std.proofs.Common.{◌-◌, refl, ap, ◌∙◌, arith, ltb}
use Rattle.ledger.specs.Call.{turn}
use Rattle.ledger.specs.Pairs.{Pair}
use Rattle.ledger.specs.laws.Accepted.{turn-accepted}
use Rattle.record.proofs.EndOfRun.{accepted, kept-ready, refuses}
use Rattle.refusal.specs.laws.Judged.{judged-ok}
use Rattle.record.specs.Solver.{accepted_of_under, turned_of, value_of, work_of, worked_of}
use Rattle.record.specs.Work.{work_pair}
use Rattle.record.specs.declared.work.Work.{Work}
use Rattle.record.specs.declared.query.Answer.TheVariants.{Turned}
use Rattle.record.specs.laws.Turning.{work-turned}
use Rattle.record.proofs.solver.Solver.turn.Goals as goal

pub returns-in-Err : goal.returns-in-Err
returns-in-Err c = refuses c.args.self (turn c.args.p c.args.q) c.requires _ refl _ _ c.in-Err.ensures c.refuse.ensures

pub overflow_sub-p : goal.overflow_sub-p
overflow_sub-p c = (turn-accepted _ _ _ _ (judged-ok _ _ _ c.in_default.ensures).0).first

pub overflow_sub-q : goal.overflow_sub-q
overflow_sub-q c = let t = turn-accepted _ _ _ _ (judged-ok _ _ _ c.in_default.ensures).0 in omega (arith, t.first, t.ordered)

pub pair-requires : goal.pair-requires
unfolding work_of
pair-requires c =
    let t = turn-accepted _ _ _ _ (judged-ok _ _ _ c.in_default.ensures).0 in
    rw c.work-work.ensures (
      omega (arith, t.first, t.ordered),
      omega (arith, t.first, t.ordered, t.last),
      kept-ready c.args.self c.requires,
    )

pub returns : goal.returns
unfolding value_of accepted_of_under turned_of work_of
returns c =
    let r = c.args.self in
    let pair : Pair = record { p = c.args.p - 1; q = c.args.q - 1 } in
    let turned = c.pair.ensures ∙ ap (λ w. work_pair w pair) c.work-work.ensures in
    accepted r (turn c.args.p c.args.q) c.requires _ refl _ _ c.in_default.ensures
    (ap (λ (w : Work). Turned (ltb r.m w.m)) turned ∙ ap Turned (work-turned (work_of r) pair))
    (c.with_work.ensures ∙ ap (worked_of r) turned)
