use Rattle.std.proofs.Common.{ap, ◌∙◌, arith, eq-eqb}
use Rattle.ledger.specs.Call.{loose_pair}
use Rattle.ledger.specs.Pairs.{cyclic}
use Rattle.ledger.specs.Refusal.{refusal_of, refusal_under}
use Rattle.ledger.specs.laws.Cyclic.{cyclic-pairs}
use Rattle.refusal.specs.laws.Judged.{judged-err, judged-ok}
use Rattle.record.proofs.Search.{same-loose}
use Rattle.record.specs.Solver.{answer_of, value_of}
use Rattle.record.specs.declared.query.Answer.TheVariants.{Refused}
use Rattle.record.specs.laws.Fill.{at-rows_of}
use Rattle.record.proofs.solver.Solver.loose_pair.Goals as goal

pub returns-in-Err : goal.returns-in-Err
unfolding answer_of refusal_under
returns-in-Err c = let f = judged-err _ _ _ c.in-Err.ensures in ap Refused f.1 ∙ rw f.0

pub returns : goal.returns
unfolding answer_of value_of refusal_under
returns c =
    let r = c.args.self in
    c.pair_answer.ensures ∙ c.loose_pair_of.ensures.is ∙
    rw (c.unpacked.ensures, eq-eqb (refusal_of r.n r.m (loose_pair c.args.t)) 0 (judged-ok _ _ _ c.in_default.ensures).0)
    (same-loose r.n _ _ c.args.t (cyclic r.n) (cyclic-pairs r.n)
    (λ i j h l. at-rows_of r.a i j (omega (arith, h, c.requires.size)) (omega (arith, l, c.requires.size))))
