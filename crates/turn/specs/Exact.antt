-- Document 01's exact rotation R, written whole, that is N times it.
use Rattle.std.specs.Prelude.{ℕ, pos, neg_ℤ}
use Rattle.integer.specs.Matrix.{Matrix, diagonal}
use Rattle.turn.specs.Turn.{at_pair}
use Rattle.turn.specs.declared.pair.Rotation.{Rotation}

-- 'The exact rotation has c/N at (p,p) and (q,q), s/N at (p,q), −s/N at (q,p), and 1 on the rest of the diagonal'; here all of it times N
unfoldable pub exact : Rotation → ℕ → ℕ → Matrix
exact r p q i j = at_pair p q i (at_pair p q j r.c r.s (pos 0)) (at_pair p q j (neg_ℤ r.s) r.c (pos 0)) (diagonal (pos r.n) i j)
