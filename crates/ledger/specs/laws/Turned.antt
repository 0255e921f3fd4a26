-- A turn of a sound state gives a sound state.
use Rattle.std.specs.Prelude.{◌≡◌, ℕ, ◌*◌, ◌<◌, pos, Option, Some, None}
use Rattle.std.proofs.Common.{◌∙◌, ap, mul-le-mul, arith}
use Rattle.integer.specs.Square.{sq}
use Rattle.integer.specs.Sum.{sumℕ}
use Rattle.integer.specs.Matrix.{diagonal}
use Rattle.turn.specs.laws.Exact.{Whole, rotation_of-whole, exact-keeps-orthogonal, exact-dot-squares}
use Rattle.turn.proofs.Norm.{turned-squares, axes-column}
use Rattle.turn.specs.Rotation.{rotation_of}
use Rattle.turn.specs.laws.Symmetry.{turned-symmetric}
use Rattle.turn.specs.declared.pair.Rotation.{Rotation}
use Rattle.limits.specs.Limits.{turn_limit}
use Rattle.choice.specs.Choice.{choose}
use Rattle.choice.specs.declared.Turn.{Turn}
use Rattle.ledger.specs.Pairs.{Ordered}
use Rattle.ledger.specs.Ledger.{State, take, turn_pair}
use Rattle.ledger.specs.laws.Near.{matrix-near-turn, axes-near-turn}
use Rattle.ledger.specs.Pairs.{Pair}
use Rattle.ledger.specs.Sound.{matrix_bound, axes_bound}
use Rattle.ledger.specs.laws.Sound.{Sound}

-- Every part by the theory of one turn. Of the choice it uses only that a turn is by some l, for all l together
sound-take : (s : State) (pair : Pair) → Sound s → Ordered s.n pair → s.m < turn_limit → (choice : Option Turn) → Sound (take s pair choice)
unfolding take
sound-take s pair h o left None = h
sound-take s pair h o left (Some picked) = record {
  low = h.low;
  high = h.high;
  entries = h.entries;
  given-symmetric = h.given-symmetric;
  rounded = h.rounded;
  turns = omega arith;
  symmetric = λ i j c d. turned-symmetric r p q s.B pq i j (h.symmetric i j c d);
  matrix-size = omega (arith, turned-squares r n p q pq qn w h.high s.B h.symmetric (matrix_bound s.m) h.matrix-size);
  axes-size = λ j c. omega (arith, axes-column r n p q pq qn w s.axes j (axes_bound s.m) (h.axes-size j c));
  positive = omega (arith, mul-le-mul w.positive h.positive);
  orthogonal = λ i j c d. exact-keeps-orthogonal r n p q pq qn w s.P (s.D * s.D) h.orthogonal i j c d
      ∙ ap (λ k. diagonal (pos k) i j) (regroup r.n s.D);
  parseval = λ u. exact-dot-squares r n p q pq qn w u s.P ∙ ap (λ k. r.n * r.n * k) (h.parseval u)
      ∙ regrouped r.n s.D (sumℕ n (λ k. sq (u k)));
  matrix-near = matrix-near-turn r n p q pq qn w h.high s.m s.D s.P s.A s.B h.symmetric h.matrix-near;
  axes-near = axes-near-turn r n p q pq qn w h.high s.m s.D s.P s.axes h.axes-near;
}
  where
    r : Rotation
    r = rotation_of picked.l picked.minus

    w : Whole r
    w = rotation_of-whole picked.l picked.minus

    n : ℕ
    n = s.n

    p : ℕ
    p = pair.p

    q : ℕ
    q = pair.q

    pq : p < q
    pq = o.ordered

    qn : q < n
    qn = o.within

    regroup : (N D : ℕ) → D * D * (N * N) ≡ N * D * (N * D)
    regroup N D = omega arith

    regrouped : (N D k : ℕ) → N * N * (D * D * k) ≡ N * D * (N * D) * k
    regrouped N D k = omega arith

-- 'Turn p, q: choose on B', on a pair p < q < n, while a turn remains
pub sound-turn : (s : State) (pair : Pair) → Sound s → Ordered s.n pair → s.m < turn_limit → Sound (turn_pair s pair)
unfolding turn_pair
sound-turn s pair h o left = sound-take s pair h o left (choose (s.B pair.p pair.p) (s.B pair.q pair.q) (s.B pair.p pair.q))
