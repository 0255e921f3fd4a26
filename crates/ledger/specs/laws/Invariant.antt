-- What the pairs of a sweep leave of a state, and that they keep it sound. That it is sound after every list of calls is proofs/Invariant's.
use Rattle.std.specs.Prelude.{◌≡◌, ℕ, ◌+◌, ◌≤◌, length, Option, Some, None}
use Rattle.std.proofs.Math.Path.{refl}
use Rattle.std.proofs.Common.{◌∙◌}
use mathlib.Core.List.{List, [], ◌∷◌}
use native.Mathlib.Omega.{arith}
use Rattle.limits.specs.Limits.{turn_limit}
use Rattle.choice.specs.Choice.{choose}
use Rattle.choice.specs.declared.Turn.{Turn}
use Rattle.ledger.specs.Ledger.{State, Ledger, empty, loaded, take, turn_pair, turn_pairs}
use Rattle.ledger.specs.Pairs.{Pair, Each}
use Rattle.ledger.specs.laws.Sound.{Sound}
use Rattle.ledger.specs.laws.Turned.{sound-turn}

-- t is s after at most `count` turns: n, A, S and e stay
pub record Continues (count : ℕ) (s t : State) : Type 0 where
  pub size : t.n ≡ s.n
  pub given : t.A ≡ s.A
  pub scatter : t.S ≡ s.S
  pub shift : t.e ≡ s.e
  pub least : s.m ≤ t.m
  pub most : t.m ≤ s.m + count

-- one pair makes one turn or none
pub turn_pair-continues : (s : State) (pair : Pair) → Continues 1 s (turn_pair s pair)
unfolding turn_pair take
turn_pair-continues s pair = cases (choose (s.B pair.p pair.p) (s.B pair.q pair.q) (s.B pair.p pair.q))
  where
    cases : (choice : Option Turn) → Continues 1 s (take s pair choice)
    cases None = record { size = refl; given = refl; scatter = refl; shift = refl; least = omega arith; most = omega arith }
    cases (Some picked) = record { size = refl; given = refl; scatter = refl; shift = refl; least = omega arith; most = omega arith }

-- a list of pairs makes at most one turn for each
pub turn_pairs-continues : (s : State) (pairs : List Pair) → Continues (length pairs) s (turn_pairs s pairs)
unfolding turn_pairs
turn_pairs-continues s [] = record { size = refl; given = refl; scatter = refl; shift = refl; least = omega arith; most = omega arith }
turn_pairs-continues s (pair ∷ pairs) =
    let first = turn_pair-continues s pair in
    let rest = turn_pairs-continues (turn_pair s pair) pairs in
    record {
      size = rest.size ∙ first.size;
      given = rest.given ∙ first.given;
      scatter = rest.scatter ∙ first.scatter;
      shift = rest.shift ∙ first.shift;
      least = omega arith;
      most = omega arith;
    }

-- Pairs one after the other, in any order, while enough turns remain
pub sound-sweep : (s : State) (pairs : List Pair) → Sound s → Each s.n pairs → s.m + length pairs ≤ turn_limit → Sound (turn_pairs s pairs)
unfolding turn_pairs Each
sound-sweep s [] h e left = h
sound-sweep s (pair ∷ pairs) h e left =
    let first = turn_pair-continues s pair in
    sound-sweep (turn_pair s pair) pairs (sound-turn s pair h e.0 (omega arith)) (rw first.size e.1) (omega arith)

-- the state of a ledger that has one
unfoldable pub SoundLedger : Ledger → Type 0
SoundLedger empty = Unit
SoundLedger (loaded s) = Sound s
