-- Rows p and q turned column by column.
use mathlib.Core.Path.{◌≡◌, ap, ◌∙◌}
use mathlib.Core.Bool.{cond, ◌&&◌}
use mathlib.Core.List.{List, []}
use Prim.Native.Nat.{ℕ, ◌+◌, ◌<◌}
use native.Mathlib.Decide.{dec_lt, ℕ_discrete}
use native.Mathlib.Omega.{arith}
use lib.Dec.{ltb}
use lib.IntN.{ℤ}
use lib.ListN.{get_or, set}
use borrow.Author.Tests.{lt-ltb, le-ltb}
use Rattle.integer.specs.laws.Tests.{cond_same, next-test}
use Rattle.turn.specs.laws.Eight.{at-eight, shaped-square, square-cong, square-of}
use Rattle.turn.specs.laws.Place.{Place, at_p, at-q, neither, place, at_pair-p, at_pair-q, at_pair-neither}
use Rattle.turn.specs.Rotation.{first, second}
use Rattle.turn.specs.inner.Rotation.{inverse}
use Rattle.turn.specs.Shape.{Shaped}
use Rattle.turn.specs.Turn.{array, at, square, turn_axes, turned_axes}
use Rattle.turn.specs.declared.pair.Rotation.{Rotation}
use Rattle.turn.proofs.Back.{inverse-first}
use Rattle.turn.specs.laws.Stored.{store, stored, stored-column, stored_here, stored_row}

module _ (r : Rotation) (p q : ℕ) (v : List (List ℤ)) where
  -- the first k columns turned
  unfoldable pub columns_of : ℕ → ℕ → ℕ → ℤ
  columns_of k i j = cond (ltb j k) (turned_axes r p q (at v) i j) (at v i j)

  -- v' is v with the first k columns turned
  pub record Columns (k : ℕ) (v' : List (List ℤ)) : Type 0 where
    pub is : v' ≡ square (columns_of k)

  pub no-column : Shaped v → Columns 0 v
  unfolding columns_of
  no-column s = record { is = square-of v s ∙ square-cong (λ i j h l. rw (le-ltb j 0 (omega arith))) }

  module _ (k : ℕ) (v' : List (List ℤ)) (c : Columns k v') (l : k < 8) where
    -- column k is as it was
    pub column-read : (i : ℕ) → i < 8 → at v' i k ≡ at v i k
    unfolding columns_of
    column-read i h = rw c.is (at-eight (columns_of k) i k h l ∙ rw (le-ltb k k (omega arith)))

    module _ (h : p < q) (b : q < 8) where
      -- column k turned too
      one_more : (i j : ℕ) → stored q k (second r (at v p k) (at v q k)) (stored p k (first r (at v p k) (at v q k)) (columns_of k)) i j ≡ columns_of
          (k + 1) i j
      unfolding columns_of turned_axes
      one_more i j = by-column (ℕ_discrete j k)
        where
          u : ℤ
          u = first r (at v p k) (at v q k)

          w : ℤ
          w = second r (at v p k) (at v q k)

          by_row : (i : ℕ) → Place p q i → stored q k w (stored p k u (columns_of k)) i k ≡ columns_of (k + 1) i k
          by_row i at_p =
              stored_row q k w (stored p k u (columns_of k)) p k (omega arith) ∙ stored_here p k u (columns_of k)
              ∙ rw (lt-ltb k (k + 1) (omega arith), at_pair-p)
          by_row i at-q =
              stored_here q k w (stored p k u (columns_of k)) ∙ rw (lt-ltb k (k + 1) (omega arith), at_pair-q p q _ _ _ h)
          by_row i (neither e f) =
              stored_row q k w (stored p k u (columns_of k)) i k f ∙ stored_row p k u (columns_of k) i k e
              ∙ rw (lt-ltb k (k + 1) (omega arith), le-ltb k k (omega arith), at_pair-neither p q i _ _ _ e f)

          by-column : Dec (j ≡ k) → stored q k w (stored p k u (columns_of k)) i j ≡ columns_of (k + 1) i j
          by-column (yes e) = rw e (by_row i (place p q i))
          by-column (no d) =
              stored-column q k w (stored p k u (columns_of k)) i j d ∙ stored-column p k u (columns_of k) i j d ∙ rw (next-test k j d)

      pub columns-more : (u w : ℤ) → u ≡ first r (at v p k) (at v q k) → w ≡ first (inverse r) (at v q k) (at v p k)
          → Columns (k + 1) (set (set v' p (set (get_or v' p []) k u)) q (set (get_or (set v' p (set (get_or v' p []) k u)) q []) k w))
      columns-more u w eu ew = record { is = rw (first-stored, ew ∙ inverse-first r (at v p k) (at v q k), eu) second-stored }
        where
          first-stored : set v' p (set (get_or v' p []) k u) ≡ square (stored p k u (columns_of k))
          first-stored = rw c.is (store (columns_of k) p k u (omega arith) l)

          second-stored : set (square (stored p k (first r (at v p k) (at v q k)) (columns_of k))) q
              (set (get_or (square (stored p k (first r (at v p k) (at v q k)) (columns_of k))) q []) k (second r (at v p k) (at v q k))) ≡ square
              (columns_of (k + 1))
          second-stored = store _ q k _ b l ∙ square-cong (λ i j _ _. one_more i j)

  pub columns-all : (n : ℕ) (v' : List (List ℤ)) → p < q → q < n → Columns n v' → v' ≡ turn_axes n r p q v
  unfolding columns_of turn_axes array turned_axes
  columns-all n v' h l c = c.is ∙ square-cong (λ i j _ _. by i j (dec_lt i n))
    where
      by : (i j : ℕ) → Dec (i < n) →
          cond (ltb j n) (turned_axes r p q (at v) i j) (at v i j) ≡ cond (ltb i n && ltb j n) (turned_axes r p q (at v) i j) (at v i j)
      by i j (yes m) = rw (lt-ltb i n m)
      by i j (no m) =
          rw (le-ltb i n (omega arith))
          (ap (λ z. cond (ltb j n) z (at v i j)) (at_pair-neither p q i _ _ _ (omega arith) (omega arith)) ∙ cond_same (ltb j n) (at v i j))

  pub shaped-axes-of : (n : ℕ) → Shaped (turn_axes n r p q v)
  unfolding turn_axes array
  shaped-axes-of n = shaped-square (λ i j. cond (ltb i n && ltb j n) (turned_axes r p q (at v) i j) (at v i j))
