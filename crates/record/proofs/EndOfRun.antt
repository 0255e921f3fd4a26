-- A call refused and a call accepted, as the methods of the state end them.
use Rattle.std.specs.Prelude.{◌≡◌, ℕ, Ok, Err}
use Rattle.std.proofs.Common.{sym, ap, ◌∙◌, eq-eqb}
use Rattle.refusal.specs.Refusal.{judged}
use Rattle.refusal.specs.laws.Judged.{judged-err, judged-ok}
use Rattle.refusal.specs.declared.Refusal.{Refusal}
use Rattle.ledger.specs.Call.{Call}
use Rattle.ledger.specs.Refusal.{refusal_of}
use Rattle.turn.specs.Size.{Small}
use Rattle.record.specs.laws.Turning.{matrix-small}
use Rattle.record.specs.Worked.{Ready}
use Rattle.record.specs.declared.query.Answer.{Answer}
use Rattle.record.specs.declared.query.Answer.TheVariants.{Refused}
use Rattle.record.specs.laws.After.{after_kept}
use Rattle.record.specs.inner.Solved.{Solved}
use Rattle.record.specs.Flat.{rows_of}
use Rattle.record.specs.Kept.{KeptSolver}
use Rattle.record.specs.Solver.{accepted_of, after_of, after_of_under, answer_of, value_of, work_of}
use Rattle.record.specs.declared.solver.Solver.{Solver}
use Rattle.record.specs.declared.Step.{Step}
use Rattle.record.specs.laws.Fill.{shaped-rows}

-- a call whose check, of its number, found a refusal, and one whose check passed
module _ (r : Solver) (call : Call) (k : KeptSolver r) (number : ℕ) (e : number ≡ refusal_of r.n r.m call) where
  pub refuses : (refusal : Refusal) (z : Step Answer Solver) → Err refusal ≡ judged number (tt {0}) →
      (z.answer ≡ Refused refusal) × (z.next ≡ r) → Solved r call z.answer z.next
  unfolding answer_of after_of_under
  refuses refusal z f h =
      let test = rw e at (judged-err number _ refusal f).0 in
      let leaves : z.next ≡ after_of r call = h.1 ∙ rw test in
      record {
        answers = h.0 ∙ ap Refused (rw e at (judged-err number _ refusal f).1) ∙ rw test;
        leaves = leaves;
        keeps = rw leaves (after_kept r call k);
      }

  pub accepted : (answer : Answer) (next : Solver) → Ok (tt {0}) ≡ judged number (tt {0}) → answer ≡ value_of r call →
      next ≡ accepted_of r call → Solved r call answer next
  unfolding answer_of after_of_under
  accepted answer next f a h =
      let test = eq-eqb (refusal_of r.n r.m call) 0 (sym e ∙ (judged-ok number _ _ f).0) in
      let leaves : next ≡ after_of r call = h ∙ rw test in
      record { answers = a ∙ rw test; leaves = leaves; keeps = rw leaves (after_kept r call k) }

-- the rows of a kept matrix are small enough for the queries
pub kept_small : (r : Solver) → KeptSolver r → Small (rows_of r.a)
unfolding work_of
kept_small r k = matrix-small (work_of r) k.work k.turns

-- a kept state may be turned
pub kept-ready : (r : Solver) → KeptSolver r → Ready (work_of r)
unfolding work_of
kept-ready r k =
    record { size = k.size; kept = k.work; few = k.turns; matrix = shaped-rows r.a; axes = shaped-rows r.v }
