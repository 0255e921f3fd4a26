use Rattle.std.proofs.Common.{refl, sym}
use Rattle.ledger.specs.Call.{load}
use Rattle.record.proofs.EndOfRun.{accepted, refuses}
use Rattle.refusal.specs.laws.Judged.{judged-ok}
use Rattle.record.specs.Solver.{accepted_of_under, value_of}
use Rattle.record.specs.laws.Loading.{load-refusal-alone}
use Rattle.record.proofs.solver.Solver.load.Goals as goal

pub returns-in-Err : goal.returns-in-Err
returns-in-Err c =
    refuses c.args.self (load c.args.n c.args.numbers.now) c.requires _ (sym (load-refusal-alone _ _ _ _)) _ _ c.in-Err.ensures c.refuse.ensures

pub of_table-requires : goal.of_table-requires
of_table-requires c = (judged-ok _ _ _ c.in_default.ensures).0

pub returns : goal.returns
unfolding value_of accepted_of_under
returns c =
    accepted c.args.self (load c.args.n c.args.numbers.now) c.requires _ (sym (load-refusal-alone _ _ _ _)) _ _ c.in_default.ensures refl
    c.of_table.ensures.is
