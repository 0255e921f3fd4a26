-- Every turn of every list of calls gains: the ledger's matrix is symmetric after every list of calls, and stays so from pair to pair.
use Rattle.std.specs.Prelude.{◌≡◌, List, [], ◌∷◌, ◌++◌, ◌≤◌}
use Rattle.std.proofs.Common.{arith}
use Rattle.ledger.specs.laws.Accepted.{turn-accepted}
use Rattle.ledger.specs.Call.{Call}
use Rattle.ledger.specs.laws.Orders.{once-in}
use Rattle.ledger.specs.Pairs.{Each}
use Rattle.ledger.specs.Gain.{PairGains, Turning, by_turn, by-sweep, StateGains, Gains-always}
use Rattle.ledger.specs.laws.Invariant.{turn_pair-continues, SoundLedger}
use Rattle.ledger.specs.Ledger.{State, loaded, turn_pair, turn_pairs, accepted_under, size_of, turns_of, ledger_step, ledger_step_under}
use Rattle.ledger.specs.Pairs.{Pair}
use Rattle.ledger.specs.Refusal.{refusal_of}
use Rattle.ledger.proofs.Invariant.{sound}
use Rattle.ledger.specs.laws.Gain.{Mirrored, pair-gains, pair-mirrored}

-- pairs p < q < n one after the other, in any order
pub pairs-gain : (s : State) → Mirrored s → (before : List Pair) (pair : Pair) (after : List Pair) → Each s.n (before ++ (pair ∷ after)) →
    PairGains (turn_pairs s before) pair
unfolding turn_pairs Each
pairs-gain s h [] pair after e = pair-gains s h pair e.0
pairs-gain s h (first ∷ before) pair after e =
    pairs-gain (turn_pair s first) (pair-mirrored s h first e.0) before pair after (rw (turn_pair-continues s first).size e.1)

-- the pairs of an accepted_under call
turning-each : (s : State) (call : Call) (pairs : List Pair) → s.n ≤ 8 → Turning s.n call pairs → refusal_of s.n s.m call ≡ 0 →
    Each s.n pairs
unfolding Each
turning-each s call pairs b (by_turn p q) e =
    let turns = turn-accepted s.n s.m p q e in
    (record { ordered = omega arith; within = omega arith }, tt)
turning-each s call pairs b (by-sweep order) e = (once-in order s.n b).ordered

turning-done : (s : State) (call : Call) (pairs : List Pair) → Turning s.n call pairs → refusal_of s.n s.m call ≡ 0 →
    ledger_step (loaded s) call ≡ loaded (turn_pairs s pairs)
unfolding ledger_step_under accepted_under size_of turns_of turn_pairs
turning-done s call pairs (by_turn p q) e = rw e
turning-done s call pairs (by-sweep order) e = rw e

state-gains : (s : State) → s.n ≤ 8 → Mirrored s → StateGains s
state-gains s b h = record {
  pairs = pair-gains s h;
  calls = λ call pairs t e. record {
    done = turning-done s call pairs t e;
    gain = λ before pair after same. pairs-gain s h before pair after (rw same at (turning-each s call pairs b t e));
  };
}

-- For every list of calls; nothing is assumed of it
pub gains-always : Gains-always
unfolding SoundLedger
gains-always calls s e = let sound-state = rw e at (sound calls) in state-gains s sound-state.high sound-state.symmetric
