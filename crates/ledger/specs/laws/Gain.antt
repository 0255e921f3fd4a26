-- A turn of a pair gains, where the matrix is symmetric, and leaves it symmetric. That every turn of every list of calls gains is proofs/Gain's.
use Rattle.integer.specs.Matrix.{Symmetric}
use Rattle.choice.specs.Choice.{choose}
use Rattle.choice.specs.declared.Turn.{Turn}
use Rattle.std.specs.Prelude.{Option, Some, None}
use Rattle.turn.specs.Rotation.{rotation_of}
use Rattle.turn.specs.laws.Symmetry.{turned-symmetric}
use Rattle.turn.proofs.Gain.{gains}
use Rattle.ledger.specs.Pairs.{Ordered}
use Rattle.ledger.specs.Gain.{PairGains}
use Rattle.ledger.specs.Ledger.{State, take, turn_pair}
use Rattle.ledger.specs.Pairs.{Pair}

-- a state whose matrix is symmetric
abbrev pub Mirrored : State → Type 0
Mirrored s = Symmetric s.n s.B

pub pair-gains : (s : State) → Mirrored s → (pair : Pair) → Ordered s.n pair → PairGains s pair
unfolding turn_pair
pair-gains s h pair o l minus e = (rw e, gains s.n pair.p pair.q o.ordered o.within s.B h l minus e)

pub pair-mirrored : (s : State) → Mirrored s → (pair : Pair) → Ordered s.n pair → Mirrored (turn_pair s pair)
unfolding turn_pair take
pair-mirrored s h pair o = cases (choose (s.B pair.p pair.p) (s.B pair.q pair.q) (s.B pair.p pair.q))
  where
    cases : (choice : Option Turn) → Mirrored (take s pair choice)
    cases None = h
    cases (Some picked) = λ i j c d. turned-symmetric (rotation_of picked.l picked.minus) pair.p pair.q s.B o.ordered i j (h i j c d)
