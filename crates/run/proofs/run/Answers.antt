use Rattle.std.proofs.Common.{◌≡◌, ap, ◌∙◌, false, arith, ℕ, List, ℤ}
use Rattle.ledger.specs.Call.{load}
use Rattle.ledger.specs.Refusal.{refusal_of}
use Rattle.ledger.specs.laws.Accepted.{load-accepted}
use Rattle.record.specs.Record.{fresh, record_after}
use Rattle.record.specs.Run.{own, run_from}
use Rattle.record.specs.Solver.{accepted_of_under, loaded_solver}
use Rattle.record.specs.declared.Record.{Record}
use Rattle.record.specs.laws.Loading.{load-refusal-alone}
use Rattle.run.specs.Run.{run_after}
use Rattle.run.specs.laws.Calls.{own-after}
use Rattle.run.proofs.run.Goals as goal

-- the record after the load
module _ (n : ℕ) (numbers : List ℤ) (r next : Record) (e : r ≡ fresh) (leaves : next ≡ record_after r (own (load n numbers))) where
  is-loaded : next ≡ record_after fresh (own (load n numbers))
  is-loaded = leaves ∙ ap (λ r. record_after r (own (load n numbers))) e

  taken : refusal_of 0 0 (load n numbers) ≡ 0 → next ≡ record { solver = loaded_solver n numbers 0; refused = fresh.refused }
  unfolding accepted_of_under
  taken h = is-loaded ∙ own-after fresh (load n numbers) (load-refusal-alone fresh.solver.n fresh.solver.m n numbers ∙ h)

pub run-requires : goal.run-requires
unfolding loaded_solver
run-requires c =
    let next = taken c.args.n c.args.numbers.now _ _ c.new-fresh.ensures.is c.load-loaded.ensures.leaves c.requires.matrix in
    record {
      keeps = c.load-loaded.ensures.keeps;
      loaded = rw next (omega (arith, (load-accepted 0 0 _ _ c.requires.matrix).low));
      unturned = rw next;
      sweeps = c.requires.sweeps;
      tolerated = c.requires.tolerance;
    }

pub returns : goal.returns
unfolding run_after
returns c =
    record {
      is = c.run.ensures.is ∙ ap (run_from c.args.limit 0 false c.args.tolerance)
          (is-loaded c.args.n c.args.numbers.now _ _ c.new-fresh.ensures.is c.load-loaded.ensures.leaves);
      keeps = c.run.ensures.keeps;
    }
