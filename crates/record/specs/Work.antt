-- The kept matrix and axes while pairs are turned: of n channels, 8 by 8 arrays of arrays, and m.
use Rattle.std.specs.Prelude.{suc, List, [], ◌∷◌, Option, Some, None}
use Rattle.ledger.specs.Pairs.{Pair}
use Rattle.turn.specs.Rotation.{rotation_of}
use Rattle.turn.specs.Turn.{at, turn_matrix, turn_axes}
use Rattle.choice.specs.Choice.{choose}
use Rattle.choice.specs.declared.Turn.{Turn}
use Rattle.record.specs.declared.work.Work.{Work}

-- choose, then turn if one was chosen
unfoldable pub work_by : Work → Pair → Option Turn → Work
work_by w pair None = w
work_by w pair (Some picked) =
    record {
      n = w.n;
      matrix = turn_matrix w.n (rotation_of picked.l picked.minus) pair.p pair.q w.matrix;
      axes = turn_axes w.n (rotation_of picked.l picked.minus) pair.p pair.q w.axes;
      m = suc w.m;
    }

unfoldable pub chosen : Work → Pair → Option Turn
chosen w pair = choose (at w.matrix pair.p pair.p) (at w.matrix pair.q pair.q) (at w.matrix pair.p pair.q)

unfoldable pub work_pair : Work → Pair → Work
work_pair w pair = work_by w pair (chosen w pair)

-- each pair chosen on the matrix as it then stands
unfoldable pub work_pairs : Work → List Pair → Work
work_pairs w [] = w
work_pairs w (pair ∷ pairs) = work_pairs (work_pair w pair) pairs
