-- Document 02, W11: a turn gains for every symmetric matrix that a record can hold. Like demand 3 it is one claim about every list of calls.
use Rattle.std.specs.Prelude.{◌≡◌, Bool, List, [], ◌∷◌, ◌++◌, ℕ, ◌-◌, Some}
use Rattle.choice.specs.Choice.{choose, turn_of}
use Rattle.turn.specs.Gain.{Gains}
use Rattle.turn.specs.Rotation.{rotation_of}
use Rattle.ledger.specs.Bench.{NamedCall}
use Rattle.ledger.specs.Call.{Call, turn, sweep_in}
use Rattle.ledger.specs.Ledger.{State, loaded, take, turn_pair, turn_pairs, ledger_step, ledger}
use Rattle.ledger.specs.Pairs.{Ordered, Pair}
use Rattle.ledger.specs.Order.{pairs_in}
use Rattle.ledger.specs.Refusal.{refusal_of}
use Rattle.ledger.specs.declared.Order.{Order}

-- the turn that the choice rule picks for a pair of the ledger's matrix B, if it picks one, is the one that the ledger makes, and it gains
abbrev pub PairGains : State → Pair → Type 0
PairGains s pair =
    (l : ℕ) (minus : Bool) → choose (s.B pair.p pair.p) (s.B pair.q pair.q) (s.B pair.p pair.q) ≡ Some (turn_of l minus) →
    (turn_pair s pair ≡ take s pair (Some (turn_of l minus))) × Gains s.n (rotation_of l minus) pair.p pair.q s.B

-- the calls that turn, and their pairs in order, on n channels
pub data Turning (n : ℕ) : Call → List Pair → Type 0 where
  by_turn : (p q : ℕ) → Turning n (turn p q) (record { p = p - 1; q = q - 1 } ∷ [])
  by-sweep : (order : Order) → Turning n (sweep_in order) (pairs_in order n)

-- a call that turns the pairs
pub record CallGains (s : State) (call : Call) (pairs : List Pair) : Type 0 where
  -- 'its pairs in its order, each done as under Turn'
  pub done : ledger_step (loaded s) call ≡ loaded (turn_pairs s pairs)
  -- each turn that it makes gains, on the matrix as it then stands, after the pairs before it
  pub gain : (before : List Pair) (pair : Pair) (after : List Pair) → pairs ≡ before ++ (pair ∷ after) → PairGains (turn_pairs s before) pair

pub record StateGains (s : State) : Type 0 where
  -- 'For every pair where the choice rule picks a turn'
  pub pairs : (pair : Pair) → Ordered s.n pair → PairGains s pair
  -- every further call, turn or sweep, that is not refused
  pub calls : (call : Call) (pairs : List Pair) → Turning s.n call pairs → refusal_of s.n s.m call ≡ 0 → CallGains s call pairs

abbrev pub Gains-always : Type 0
Gains-always = (calls : List NamedCall) (s : State) → ledger calls ≡ loaded s → StateGains s
