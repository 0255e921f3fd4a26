use Rattle.std.proofs.Common.{◌-◌, sym, ap, ◌∙◌}
use Rattle.ledger.specs.Call.{sweep_in}
use Rattle.ledger.specs.Order.{pairs_in}
use Rattle.ledger.specs.declared.Order.TheVariants.{Cyclic}
use Rattle.ledger.specs.laws.Accepted.{sweep-accepted, sweep-held}
use Rattle.ledger.specs.laws.Orders.{refused-alike}
use Rattle.record.proofs.EndOfRun.{accepted, kept-ready, refuses}
use Rattle.refusal.specs.laws.Judged.{judged-ok}
use Rattle.record.specs.Solver.{accepted_of_under, swept_in, swept_of, value_of, work_of, worked_of}
use Rattle.record.specs.Work.{work_pairs}
use Rattle.record.specs.declared.work.Work.{Work}
use Rattle.record.specs.laws.Turning.{works-least}
use Rattle.record.proofs.solver.Solver.sweep_in.Goals as goal

pub returns-in-Err : goal.returns-in-Err
returns-in-Err c =
    refuses c.args.self (sweep_in c.args.order) c.requires _ (sym (refused-alike c.args.order _ _)) _ _ c.in-Err.ensures c.refuse.ensures

pub sweep_in-requires : goal.sweep_in-requires
unfolding work_of
sweep_in-requires c =
    let r = c.args.self in
    let taken = (judged-ok _ _ _ c.in_default.ensures).0 in
    rw c.work-work.ensures (sweep-held r.n r.m Cyclic taken, sweep-accepted r.n r.m Cyclic taken, kept-ready r c.requires)

pub overflow_sub-work : goal.overflow_sub-work
unfolding work_of
overflow_sub-work c =
    let r = c.args.self in
    let pairs = pairs_in c.args.order r.n in
    rw (← (c.sweep_in.ensures ∙ ap (λ (w : Work). work_pairs w (pairs_in c.args.order w.n)) c.work-work.ensures)) at
    (works-least (work_of r) pairs)

pub returns : goal.returns
unfolding value_of accepted_of_under swept_of worked_of work_of
returns c =
    let r = c.args.self in
    let order = c.args.order in
    let swept = c.sweep_in.ensures ∙ ap (λ (w : Work). work_pairs w (pairs_in order w.n)) c.work-work.ensures in
    accepted r (sweep_in order) c.requires _ (sym (refused-alike order _ _)) _ _ c.in_default.ensures
    (c.swept.ensures ∙ ap (λ (w : Work). swept_in order (w.m - r.m)) swept)
    (c.with_work.ensures ∙ ap (worked_of r) swept)
