-- A run as each test decides it.
use Rattle.std.specs.Prelude.{◌≡◌, Bool, true, false}
use Prim.Native.Nat.{ℕ, zero, suc, ◌+◌}
use Rattle.std.proofs.Math.Numerals.{add-one}
use Rattle.ledger.specs.Call.{sweep, loose_pair}
use Rattle.record.specs.Record.{answer_to, record_after}
use Rattle.record.specs.declared.Record.{Record}
use Rattle.record.specs.Run.{no_pair, no_turn, own, run_from, stop, tried}
use Rattle.record.specs.declared.run.Outcome.TheVariants.{Settled, Still, Spent}

module _ (left sweeps t : ℕ) (idle : Bool) (r : Record) where
  pub run_settled : no_pair (answer_to r (own (loose_pair t))) ≡ true → run_from left sweeps idle t r ≡ stop Settled sweeps r
  unfolding run_from tried
  run_settled e = by-limit left
    where
      by-limit : (left : ℕ) → run_from left sweeps idle t r ≡ stop Settled sweeps r
      by-limit zero = rw e
      by-limit (suc left) = rw e

  module _ (e : no_pair (answer_to r (own (loose_pair t))) ≡ false) where
    pub run-still : idle ≡ true → run_from left sweeps idle t r ≡ stop Still sweeps r
    unfolding run_from tried
    run-still i = by-limit left
      where
        by-limit : (left : ℕ) → run_from left sweeps idle t r ≡ stop Still sweeps r
        by-limit zero = rw (e, i)
        by-limit (suc left) = rw (e, i)

    pub run-spent : idle ≡ false → left ≡ 0 → run_from left sweeps idle t r ≡ stop Spent sweeps r
    unfolding run_from tried
    run-spent i l = rw (l, e, i)

    pub run-sweeps : idle ≡ false → (later : ℕ) → left ≡ later + 1 →
        run_from left sweeps idle t r ≡ run_from later (sweeps + 1) (no_turn (answer_to r (own sweep))) t (record_after r (own sweep))
    unfolding run_from tried
    run-sweeps i later l = rw (l, add-one later, add-one sweeps, e, i)
