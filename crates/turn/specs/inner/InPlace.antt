-- The turn of a lent matrix in three steps: rows p and q turned as those of the axes are, the block's second pass, and the mirrors of rows p and q.
use Rattle.std.specs.Prelude.{ℕ, ◌≤◌, cond, List, ltb, ℤ, nat_abs}
use Rattle.choice.specs.Widest.{widest}
use Rattle.turn.specs.Rotation.{first, second}
use Rattle.turn.specs.inner.Size.{passed}
use Rattle.turn.specs.Turn.{at, at_pair}
use Rattle.turn.specs.declared.pair.Rotation.{Rotation}

module _ (p q : ℕ) (f : ℕ → ℕ → ℤ) where
  -- f with a block in rows and columns p and q
  unfoldable pub with_block : ℤ → ℤ → ℤ → ℕ → ℕ → ℤ
  with_block pp pq qq i j = at_pair p q i (at_pair p q j pp pq (f p j)) (at_pair p q j pq qq (f q j)) (f i j)

  -- the second pass over the block that the first pass has left in f
  unfoldable pub block_of : Rotation → ℕ → ℕ → ℤ
  block_of r = with_block (first r (f p p) (f p q)) (second r (f p p) (f p q)) (second r (f q p) (f q q))

  -- the first k rows take their entries in columns p and q from rows p and q
  unfoldable pub mirror_of : ℕ → ℕ → ℕ → ℤ
  mirror_of k i j = cond (ltb i k) (at_pair p q j (f p i) (f q i) (f i j)) (f i j)

-- the entries of the block after a first pass
pub record Passed (r : Rotation) (p q : ℕ) (a : List (List ℤ)) : Type 0 where
  pub pp : nat_abs (at a p p) ≤ passed r widest
  pub pq : nat_abs (at a p q) ≤ passed r widest
  pub qp : nat_abs (at a q p) ≤ passed r widest
  pub qq : nat_abs (at a q q) ≤ passed r widest
