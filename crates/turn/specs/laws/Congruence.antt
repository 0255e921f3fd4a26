-- Matrices that are equal in their n by n entries give one choice, and turned on a pair below n they stay equal there.
use Rattle.std.specs.Prelude.{◌≡◌, ℕ, ◌<◌}
use native.Mathlib.Omega.{arith}
use Rattle.integer.specs.Matrix.{Matrix, Same}
use Rattle.choice.specs.Choice.{choose}
use Rattle.turn.specs.Turn.{turned, turned_axes, newp, newq, newpp, newpq, newqq, hpp, hpq, hqp, hqq}
use Rattle.turn.specs.declared.pair.Rotation.{Rotation}

module _ (n p q : ℕ) (l : p < q) (k : q < n) (a b : Matrix) (h : Same n a b) where
  -- the choice reads three entries
  pub choose-same : choose (a p p) (a q q) (a p q) ≡ choose (b p p) (b q q) (b p q)
  choose-same = let o : p < n = omega arith in rw (h p p o o, h q q k k, h p q o k)

  -- the new matrix
  pub turned_same : (r : Rotation) → Same n (turned r p q a) (turned r p q b)
  unfolding turned newp newq newpp newpq newqq hpp hpq hqp hqq
  turned_same r i j c d = let o : p < n = omega arith in rw (h p p o o, h p q o k, h q q k k, h p i o c, h q i k c, h p j o d, h q j k d, h i j c d)

  -- the new axes
  pub turned_axes-same : (r : Rotation) → Same n (turned_axes r p q a) (turned_axes r p q b)
  unfolding turned_axes
  turned_axes-same r i j c d = let o : p < n = omega arith in rw (h p j o d, h q j k d, h i j c d)
