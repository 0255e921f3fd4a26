-- A call of no bench, and one of a bench, as the methods of the record end them.
use mathlib.Core.Path.{◌≡◌, refl, sym, ◌∙◌}
use mathlib.Core.Bool.{Bool, true, false, cond, not}
use Prim.Native.Nat.{ℕ}
use lib.Dec.{eqb}
use Rattle.ledger.specs.Bench.{by, is_bench}
use Rattle.ledger.specs.Call.{Call}
use Rattle.ledger.specs.Refusal.{refusal_of}
use Rattle.limits.specs.Limits.{entry_limit}
use Rattle.record.specs.Done.{Done}
use Rattle.record.specs.Kept.{Kept}
use Rattle.record.specs.Record.{called_under, raised, record_after}
use Rattle.record.specs.Solver.{after_of, answer_of}
use Rattle.record.specs.declared.Record.{Record}
use Rattle.record.specs.declared.query.Answer.{Answer}
use Rattle.record.specs.declared.query.Answer.TheVariants.{Refused}
use Rattle.record.specs.declared.solver.Solver.{Solver}
use Rattle.record.specs.declared.Step.{Step}
use Rattle.record.specs.inner.Named.{counts_left, left_with}
use Rattle.record.specs.laws.Named.{bench-answers, bench-leaves, named-kept, no-bench-answers, no-bench-leaves, refused-answer}
use Rattle.refusal.specs.Refusal.{numbered}

module _ (r : Record) (bench : ℕ) (call : Call) (k : Kept r) where
  pub no-bench : is_bench bench ≡ false → (answer : Answer) (next : Record) → answer ≡ Refused (numbered 15) → next ≡ r →
      Done r (by bench call) answer next
  no-bench b answer next a e =
      let leaves : next ≡ record_after r (by bench call) = e ∙ sym (no-bench-leaves r (by bench call) b) in
      record {
        answers = a ∙ sym (no-bench-answers r (by bench call) b);
        leaves = leaves;
        keeps = rw leaves (named-kept r (by bench call) k);
      }

  left_is : left_with r.refused bench (answer_of r.solver call) (after_of r.solver call) ≡ called_under entry_limit r (by bench call)
  unfolding counts_left called_under
  left_is = rw (refused-answer r.solver call) (by-refusal (eqb (refusal_of r.solver.n r.solver.m call) 0))
    where
      by-refusal : (b : Bool) →
          ◌≡◌ {A = Record} (record { solver = after_of r.solver call; refused = cond (not b) (raised bench r.refused) r.refused })
          (record { solver = after_of r.solver call; refused = cond b r.refused (raised bench r.refused) })
      by-refusal true = refl
      by-refusal false = refl

  -- from what the call answers and does to the state
  pub of-bench : is_bench bench ≡ true → (answer given : Answer) (next : Record) (solver : Solver) → given ≡ answer_of r.solver call →
      solver ≡ after_of r.solver call → answer ≡ given → next ≡ left_with r.refused bench given solver → Done r (by bench call) answer next
  of-bench b answer given next solver e f a g =
      let leaves : next ≡ record_after r (by bench call) = g ∙ rw (e, f) left_is ∙ sym (bench-leaves r (by bench call) b) in
      record {
        answers = a ∙ e ∙ sym (bench-answers r (by bench call) b);
        leaves = leaves;
        keeps = rw leaves (named-kept r (by bench call) k);
      }

  -- from what the call does to the state, where the bench is one of the four: P is what is known of it
  pub named : {P : Step Answer Solver → Type 0} (answer : Answer) (next : Record) →
      ((done : Step Answer Solver) → P done → (done.answer ≡ answer_of r.solver call) × (done.next ≡ after_of r.solver call)) →
      (is_bench bench ≡ false → (answer ≡ Refused (numbered 15)) × (next ≡ r)) →
      (is_bench bench ≡ true → (done : Step Answer Solver) × P done × (answer ≡ done.answer) ×
      (next ≡ left_with r.refused bench done.answer done.next)) →
      Done r (by bench call) answer next
  named answer next solves outside inside = by-bench (is_bench bench) refl
    where
      by-bench : (b : Bool) → is_bench bench ≡ b → Done r (by bench call) answer next
      by-bench true b =
          let done = inside b in
          let solved = solves done.0 done.1 in
          of-bench b answer done.0.answer next done.0.next solved.0 solved.1 done.2 done.3
      by-bench false b = no-bench b answer next (outside b).0 (outside b).1
