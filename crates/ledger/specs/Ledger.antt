-- Document 01, 'The ledger of demand 3': fed the calls alone, each with its arguments, in order. Document 02, W5: it 'keeps S and e'.
use Rattle.std.specs.Prelude.{ℕ, suc, ◌-◌, ◌*◌, cond, List, [], ◌∷◌, eqb, ℤ, pos, ◌*ℤ◌, Option, Some, None}
use Rattle.turn.specs.Exact.{exact}
use Rattle.turn.specs.Rotation.{rotation_of}
use Rattle.turn.specs.Turn.{turned, turned_axes}
use Rattle.limits.specs.Limits.{entry_limit, units, whole}
use Rattle.choice.specs.Choice.{choose}
use Rattle.choice.specs.declared.Turn.{Turn}
use Rattle.integer.specs.Matrix.{Matrix, diagonal, product, matrix_of}
use Rattle.ledger.specs.Bench.{NamedCall, is_bench}
use Rattle.ledger.specs.Call.{Call, load, load_samples, turn, sweep_in, loose_pair, axis}
use Rattle.ledger.specs.Order.{pairs_in}
use Rattle.ledger.specs.Pairs.{Pair}
use Rattle.ledger.specs.Refusal.{refusal_under}
use Rattle.readings.specs.Samples.{samples}
use Rattle.scatter.specs.Table.{S, scatter, shift_under, entries_under}

-- 'Once loaded it has n, A, a matrix B, axes V, m and Q', and S and e; V is `axes`, and Q is P / D in whole numbers
pub record State : Type 0 where
  pub n : ℕ
  pub A : Matrix
  pub S : Matrix
  pub e : ℕ
  pub B : Matrix
  pub axes : Matrix
  pub m : ℕ
  pub P : Matrix
  pub D : ℕ

-- 'It starts with no matrix'
pub data Ledger : Type 0 where
  empty : Ledger
  loaded : State → Ledger

-- 'Load: n and A are as given, B is A times 1024, V is 2^30 on the diagonal and 0 elsewhere, m = 0, Q is 1 on the diagonal and 0 elsewhere'; with
-- the S and e that it keeps
unfoldable pub loaded_state : ℕ → List ℤ → Matrix → ℕ → State
loaded_state n numbers scattered shift =
    record {
      n = n;
      A = matrix_of n numbers;
      S = scattered;
      e = shift;
      B = λ i j. pos units *ℤ matrix_of n numbers i j;
      axes = diagonal (pos whole);
      m = 0;
      P = diagonal (pos 1);
      D = 1;
    }

-- 'If a turn is chosen, B and V take it with rounding, Q is multiplied from the left by its exact rotation, and m grows by 1. If none is, nothing
-- changes'
unfoldable pub take : State → Pair → Option Turn → State
take s pair None = s
take s pair (Some picked) =
    let r = rotation_of picked.l picked.minus in
    record {
      n = s.n;
      A = s.A;
      S = s.S;
      e = s.e;
      B = turned r pair.p pair.q s.B;
      axes = turned_axes r pair.p pair.q s.axes;
      m = suc s.m;
      P = product s.n (exact r pair.p pair.q) s.P;
      D = r.n * s.D;
    }

-- 'Turn p, q: choose on B'
unfoldable pub turn_pair : State → Pair → State
turn_pair s pair = take s pair (choose (s.B pair.p pair.p) (s.B pair.q pair.q) (s.B pair.p pair.q))

-- 'Sweep: its pairs in its order, each done as under Turn'
unfoldable pub turn_pairs : State → List Pair → State
turn_pairs s [] = s
turn_pairs s (pair ∷ pairs) = turn_pairs (turn_pair s pair) pairs

-- 'S and e, which are A and 0 after a plain load'
unfoldable pub plain_state : ℕ → List ℤ → State
plain_state n numbers = loaded_state n numbers (matrix_of n numbers) 0

-- 'takes it as a load of that rounded table and keeps S and e', with the entries and the e of a limit
unfoldable pub samples_state : ℕ → ℕ → List ℕ → List ℕ → State
samples_state limit n dilutions counts =
    let ss = samples n dilutions counts in
    loaded_state n (entries_under limit (scatter n ss)) (S ss) (shift_under limit (scatter n ss))

-- a call that is not refused, under a limit of the entries; 'Queries: nothing changes'
unfoldable pub accepted_under : ℕ → Ledger → Call → Ledger
accepted_under limit g (load n numbers) = loaded (plain_state n numbers)
accepted_under limit g (load_samples n dilutions counts) = loaded (samples_state limit n dilutions counts)
accepted_under limit empty (turn p q) = empty
accepted_under limit (loaded s) (turn p q) = loaded (turn_pair s (record { p = p - 1; q = q - 1 }))
accepted_under limit empty (sweep_in order) = empty
accepted_under limit (loaded s) (sweep_in order) = loaded (turn_pairs s (pairs_in order s.n))
accepted_under limit g (loose_pair t) = g
accepted_under limit g (axis i) = g

-- a state's n, 0 where there is no matrix, and m
unfoldable pub size_of : Ledger → ℕ
size_of empty = 0
size_of (loaded s) = s.n

unfoldable pub turns_of : Ledger → ℕ
turns_of empty = 0
turns_of (loaded s) = s.m

-- 'A call leaves it as it is when a refusal below applies to that call on the ledger's own state', under a limit of the entries
unfoldable pub ledger_step_under : ℕ → Ledger → Call → Ledger
ledger_step_under limit g call = cond (eqb (refusal_under limit (size_of g) (turns_of g) call) 0) (accepted_under limit g call) g

-- document 02, W8: and so when the call names no bench from 1 to 4, which is refused before everything else
unfoldable pub named_step_under : ℕ → Ledger → NamedCall → Ledger
named_step_under limit g c = cond (is_bench c.bench) (ledger_step_under limit g c.call) g

unfoldable pub ledger_from_under : ℕ → Ledger → List NamedCall → Ledger
ledger_from_under limit g [] = g
ledger_from_under limit g (c ∷ calls) = ledger_from_under limit (named_step_under limit g c) calls

-- under the limit of document 02's W9
abbrev pub ledger_step : Ledger → Call → Ledger
ledger_step = ledger_step_under entry_limit

abbrev pub ledger_from : Ledger → List NamedCall → Ledger
ledger_from = ledger_from_under entry_limit

unfoldable pub ledger : List NamedCall → Ledger
ledger calls = ledger_from empty calls
