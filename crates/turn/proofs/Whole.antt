-- The turn of the whole matrix, from its three steps: rows, block and mirrors.
use mathlib.Core.Path.{◌≡◌, refl, sym, ap, ◌∙◌}
use mathlib.Core.Bool.{cond, ◌&&◌}
use mathlib.Core.List.{List, []}
use Prim.Native.Nat.{ℕ, ◌+◌, ◌<◌, ◌≤◌}
use native.Mathlib.Decide.{dec_lt, ℕ_discrete}
use native.Mathlib.Omega.{arith}
use lib.Dec.{ltb}
use lib.IntN.{ℤ, nat_abs}
use lib.ListN.{get_or, set}
use borrow.Author.Tests.{lt-ltb, le-ltb}
use Rattle.integer.specs.laws.Tests.{cond_same, next-test}
use Rattle.choice.specs.Widest.{widest}
use Rattle.turn.specs.laws.Eight.{at-eight, square-cong, square-of}
use Rattle.turn.specs.inner.InPlace.{Passed, block_of, mirror_of, with_block}
use Rattle.turn.specs.laws.Place.{Place, at_p, at-q, neither, place, at_pair-p, at_pair-q, at_pair-neither}
use Rattle.turn.specs.Rotation.{first, second}
use Rattle.turn.specs.inner.Rotation.{inverse}
use Rattle.turn.specs.Shape.{Shaped}
use Rattle.turn.specs.Size.{Small}
use Rattle.turn.specs.inner.Size.{SymmetricRows, TurnFits, passed}
use Rattle.turn.specs.Turn.{array, at, at_pair, hpp, hpq, hqp, hqq, newp, newpp, newpq, newq, newqq, square, turn_axes, turn_matrix, turned}
use Rattle.turn.specs.Turn.{turned_axes}
use Rattle.turn.specs.declared.pair.Rotation.{Rotation}
use Rattle.turn.specs.laws.Stored.{store, stored, stored-column, stored_here, stored_row}
use Rattle.turn.proofs.Back.{back-of, inverse-first}
use Rattle.turn.proofs.Pass.{first-size}

-- the four stores of the block
module _ (p q : ℕ) (a : List (List ℤ)) (h : p < q) (b : q < 8) (pp pq qq : ℤ) where
  one : ℕ → ℕ → ℤ
  one = stored p p pp (at a)

  two : ℕ → ℕ → ℤ
  two = stored p q pq one

  three : ℕ → ℕ → ℤ
  three = stored q p pq two

  four_is : (i j : ℕ) → stored q q qq three i j ≡ at_pair p q i (at_pair p q j pp pq (at a p j)) (at_pair p q j pq qq (at a q j)) (at a i j)
  unfolding one two three
  four_is i j = by i j (place p q i) (place p q j)
    where
      above : (j : ℕ) → stored q q qq three p j ≡ two p j
      above j = stored_row q q qq three p j (omega arith) ∙ stored_row q p pq two p j (omega arith)

      by : (i j : ℕ) → Place p q i → Place p q j →
          stored q q qq three i j ≡ at_pair p q i (at_pair p q j pp pq (at a p j)) (at_pair p q j pq qq (at a q j)) (at a i j)
      by i j at_p at_p = above p ∙ stored-column p q pq one p p (omega arith) ∙ stored_here p p pp (at a) ∙ rw (at_pair-p, at_pair-p)
      by i j at_p at-q = above q ∙ stored_here p q pq one ∙ rw (at_pair-p, at_pair-q p q _ _ _ h)
      by i j at_p (neither e g) =
          above j ∙ stored-column p q pq one p j g ∙ stored-column p p pp (at a) p j e ∙ rw (at_pair-p, at_pair-neither p q j _ _ _ e g)
      by i j at-q at_p = stored-column q q qq three q p (omega arith) ∙ stored_here q p pq two ∙ rw (at_pair-q p q _ _ _ h, at_pair-p)
      by i j at-q at-q = stored_here q q qq three ∙ rw (at_pair-q p q _ _ _ h, at_pair-q p q _ _ _ h)
      by i j at-q (neither e g) =
          stored-column q q qq three q j g ∙ stored-column q p pq two q j e ∙ stored_row p q pq one q j (omega arith)
          ∙ stored_row p p pp (at a) q j (omega arith) ∙
          rw (at_pair-q p q _ _ _ h, at_pair-neither p q j _ _ _ e g)
      by i j (neither e g) k =
          stored_row q q qq three i j g ∙ stored_row q p pq two i j g ∙ stored_row p q pq one i j e ∙ stored_row p p pp (at a) i j e ∙
          rw (at_pair-neither p q i _ _ _ e g)

  -- an array with x at p, k
  abbrev put : List (List ℤ) → ℕ → ℕ → ℤ → List (List ℤ)
  put a p k x = set a p (set (get_or a p []) k x)

  pub block : Shaped a → put (put (put (put a p p pp) p q pq) q p pq) q q qq ≡ square (with_block p q (at a) pp pq qq)
  unfolding with_block one two three
  block s =
      rw (
        (ap (λ a. put a p p pp) (square-of a s) ∙ store (at a) p p pp (omega arith) (omega arith)),
        store one p q pq (omega arith) b,
        store two q p pq b (omega arith),
        store three q q qq b b,
      )
      (square-cong (λ i j _ _. four_is i j))

-- a choice at p and q, both below n, goes under the test that a column is in use
pair-in-use : {A : Type 0} (n p q j : ℕ) (x y z s : A) → p < q → q < n →
    at_pair p q j x y (cond (ltb j n) z s) ≡ cond (ltb j n) (at_pair p q j x y z) s
pair-in-use n p q j x y z s h k = by_place j (place p q j)
  where
    by_place : (j : ℕ) → Place p q j → at_pair p q j x y (cond (ltb j n) z s) ≡ cond (ltb j n) (at_pair p q j x y z) s
    by_place j at_p = simp (at_pair-p, lt-ltb p n (omega arith))
    by_place j at-q = simp (at_pair-q, lt-ltb q n k)
    by_place j (neither e f) = rw (at_pair-neither p q j x y (cond (ltb j n) z s) e f, at_pair-neither p q j x y z e f)

-- columns p and q of the first k rows
module _ (p q : ℕ) (a : List (List ℤ)) where
  -- a' is a with the first k rows mirrored
  pub record Mirrored (k : ℕ) (a' : List (List ℤ)) : Type 0 where
    pub is : a' ≡ square (mirror_of p q (at a) k)

  pub no_row : Shaped a → Mirrored 0 a
  unfolding mirror_of
  no_row s = record { is = square-of a s ∙ square-cong (λ i j _ _. rw (le-ltb i 0 (omega arith))) }

  module _ (k : ℕ) (a' : List (List ℤ)) (c : Mirrored k a') (l : k < 8) (h : p < q) (b : q < 8) (cross : at a p q ≡ at a q p) where
    pub first_read : at a' p k ≡ at a p k
    unfolding mirror_of
    first_read = rw c.is (at-eight (mirror_of p q (at a) k) p k (omega arith) l ∙ by k (dec_lt p k) (place p q k))
      where
        by : (k : ℕ) → Dec (p < k) → Place p q k → mirror_of p q (at a) k p k ≡ at a p k
        by k (no m) z = rw (le-ltb p k (omega arith))
        by k (yes m) at_p = absurd (omega arith)
        by k (yes m) at-q = rw (lt-ltb p q m, at_pair-q p q _ _ _ h) (sym cross)
        by k (yes m) (neither e g) = rw (lt-ltb p k m, at_pair-neither p q k _ _ _ e g)

    pub second-read : at a' q k ≡ at a q k
    unfolding mirror_of
    second-read = rw c.is (at-eight (mirror_of p q (at a) k) q k b l ∙ by k (dec_lt q k) (place p q k))
      where
        by : (k : ℕ) → Dec (q < k) → Place p q k → mirror_of p q (at a) k q k ≡ at a q k
        by k (no m) z = rw (le-ltb q k (omega arith))
        by k (yes m) at_p = absurd (omega arith)
        by k (yes m) at-q = absurd (omega arith)
        by k (yes m) (neither e g) = rw (lt-ltb q k m, at_pair-neither p q k _ _ _ e g)

    one_more : (i j : ℕ) → stored k q (at a q k) (stored k p (at a p k) (mirror_of p q (at a) k)) i j ≡ mirror_of p q (at a) (k + 1) i j
    unfolding mirror_of
    one_more i j = by_row (ℕ_discrete i k)
      where
        f : ℕ → ℕ → ℤ
        f = mirror_of p q (at a) k

        by-column : (j : ℕ) → Place p q j → stored k q (at a q k) (stored k p (at a p k) f) k j ≡ mirror_of p q (at a) (k + 1) k j
        by-column j at_p =
            stored-column k q (at a q k) (stored k p (at a p k) f) k p (omega arith) ∙ stored_here k p (at a p k) f
            ∙ rw (lt-ltb k (k + 1) (omega arith), at_pair-p)
        by-column j at-q = stored_here k q (at a q k) (stored k p (at a p k) f) ∙ rw (lt-ltb k (k + 1) (omega arith), at_pair-q p q _ _ _ h)
        by-column j (neither e g) =
            stored-column k q (at a q k) (stored k p (at a p k) f) k j g ∙ stored-column k p (at a p k) f k j e ∙
            rw (lt-ltb k (k + 1) (omega arith), le-ltb k k (omega arith), at_pair-neither p q j _ _ _ e g)

        by_row : Dec (i ≡ k) → stored k q (at a q k) (stored k p (at a p k) f) i j ≡ mirror_of p q (at a) (k + 1) i j
        by_row (yes e) = rw e (by-column j (place p q j))
        by_row (no d) =
            stored_row k q (at a q k) (stored k p (at a p k) f) i j d ∙ stored_row k p (at a p k) f i j d ∙ rw (next-test k i d)

    pub rows_more : (x y : ℤ) → x ≡ at a p k → y ≡ at a q k →
        Mirrored (k + 1) (set (set a' k (set (get_or a' k []) p x)) k (set (get_or (set a' k (set (get_or a' k []) p x)) k []) q y))
    rows_more x y ex ey = record { is = rw (first-stored, ex, ey) second-stored }
      where
        first-stored : set a' k (set (get_or a' k []) p x) ≡ square (stored k p x (mirror_of p q (at a) k))
        first-stored = rw c.is (store (mirror_of p q (at a) k) k p x l (omega arith))

        second-stored : set (square (stored k p (at a p k) (mirror_of p q (at a) k))) k
            (set (get_or (square (stored k p (at a p k) (mirror_of p q (at a) k))) k []) q (at a q k)) ≡ square (mirror_of p q (at a) (k + 1))
        second-stored = store _ k q _ l b ∙ square-cong (λ i j _ _. one_more i j)

module _ (n : ℕ) (r : Rotation) (p q : ℕ) (a : List (List ℤ)) (h : p < q) (k : q < n) (b : n ≤ 8) where
  -- the first pass
  t : ℕ → ℕ → ℤ
  t = at (turn_axes n r p q a)

  t-is : (i j : ℕ) → i < 8 → j < 8 → t i j ≡ cond (ltb i n && ltb j n) (turned_axes r p q (at a) i j) (at a i j)
  unfolding t turn_axes array
  t-is i j l m = at-eight (λ i j. cond (ltb i n && ltb j n) (turned_axes r p q (at a) i j) (at a i j)) i j l m

  t-p : (j : ℕ) → j < 8 → t p j ≡ cond (ltb j n) (first r (at a p j) (at a q j)) (at a p j)
  unfolding turned_axes
  t-p j m = t-is p j (omega arith) m ∙ rw (lt-ltb p n (omega arith), at_pair-p)

  t-q : (j : ℕ) → j < 8 → t q j ≡ cond (ltb j n) (second r (at a p j) (at a q j)) (at a q j)
  unfolding turned_axes
  t-q j m = t-is q j (omega arith) m ∙ rw (lt-ltb q n k, at_pair-q p q _ _ _ h)

  module _ (s : SymmetricRows a) where
    t-pp : t p p ≡ hpp r p q (at a)
    unfolding hpp
    t-pp = t-p p (omega arith) ∙ rw (lt-ltb p n (omega arith), s.mirror q p)

    t-pq : t p q ≡ hpq r p q (at a)
    unfolding hpq
    t-pq = t-p q (omega arith) ∙ rw (lt-ltb q n k)

    t-qp : t q p ≡ hqp r p q (at a)
    unfolding hqp
    t-qp = t-q p (omega arith) ∙ rw (lt-ltb p n (omega arith), s.mirror q p)

    t-qq : t q q ≡ hqq r p q (at a)
    unfolding hqq
    t-qq = t-q q (omega arith) ∙ rw (lt-ltb q n k)

    -- the block
    u : ℕ → ℕ → ℤ
    u = block_of p q t r

    u-p : (j : ℕ) → j < 8 → u p j ≡ cond (ltb j n) (newp r p q (at a) j) (at a p j)
    unfolding u block_of with_block newp newpp newpq
    u-p j m = rw (at_pair-p, t-pp, t-pq, t-p j m) (pair-in-use n p q j _ _ _ _ h k)

    u-q : (j : ℕ) → j < 8 → u q j ≡ cond (ltb j n) (newq r p q (at a) j) (at a q j)
    unfolding u block_of with_block newq newpq newqq
    u-q j m = rw (at_pair-q p q _ _ _ h, t-pp, t-pq, t-qp, t-qq, t-q j m) (pair-in-use n p q j _ _ _ _ h k)

    u-other : (i j : ℕ) → i < 8 → j < 8 → (i ≡ p → ⊥) → (i ≡ q → ⊥) → u i j ≡ at a i j
    unfolding u block_of with_block turned_axes
    u-other i j l m e g =
        at_pair-neither p q i _ _ _ e g ∙ t-is i j l m ∙ ap (λ z. cond (ltb i n && ltb j n) z (at a i j)) (at_pair-neither p q i _ _ _ e g)
        ∙ cond_same (ltb i n && ltb j n) (at a i j)

    -- rows p and q agree where they cross
    corner : newq r p q (at a) p ≡ newp r p q (at a) q
    unfolding newp newq
    corner = rw (at_pair-p, at_pair-q p q _ _ _ h)

    -- row i in use, column by column
    in_row : (i j : ℕ) → i < 8 → j < 8 → Place p q i → Place p q j →
        at_pair p q j (newp r p q (at a) i) (newq r p q (at a) i) (u i j) ≡ cond (ltb j n) (turned r p q (at a) i j) (at a i j)
    unfolding turned
    in_row i j l m at_p at_p = rw (lt-ltb p n (omega arith), at_pair-p, at_pair-p)
    in_row i j l m at-q at_p = rw (lt-ltb p n (omega arith), at_pair-p, at_pair-q p q _ _ _ h) (sym corner)
    in_row i j l m (neither e g) at_p = rw (lt-ltb p n (omega arith), at_pair-p, at_pair-neither p q i _ _ _ e g, at_pair-p)
    in_row i j l m at_p at-q = rw (lt-ltb q n k, at_pair-q p q _ _ _ h, at_pair-p) corner
    in_row i j l m at-q at-q = rw (lt-ltb q n k, at_pair-q p q _ _ _ h, at_pair-q p q _ _ _ h)
    in_row i j l m (neither e g) at-q = rw (lt-ltb q n k, at_pair-q p q _ _ _ h, at_pair-neither p q i _ _ _ e g, at_pair-q p q _ _ _ h)
    in_row i j l m at_p (neither e g) = at_pair-neither p q j _ _ _ e g ∙ u-p j m ∙ rw at_pair-p
    in_row i j l m at-q (neither e g) = at_pair-neither p q j _ _ _ e g ∙ u-q j m ∙ rw (at_pair-q p q _ _ _ h)
    in_row i j l m (neither d f) (neither e g) =
        at_pair-neither p q j _ _ _ e g ∙ u-other i j l m d f ∙
        sym (ap (λ z. cond (ltb j n) z (at a i j)) (at_pair-neither p q i _ _ _ d f ∙ at_pair-neither p q j _ _ _ e g) ∙
        cond_same (ltb j n) (at a i j))

    entry : (i j : ℕ) → i < 8 → j < 8 → mirror_of p q (at (square u)) n i j ≡ cond (ltb i n && ltb j n) (turned r p q (at a) i j) (at a i j)
    unfolding mirror_of
    entry i j l m =
        rw (at-eight u i j l m, at-eight u p i (omega arith) l, at-eight u q i (omega arith) l)
        (by-use (dec_lt i n))
      where
        by-use : Dec (i < n) → cond (ltb i n) (at_pair p q j (u p i) (u q i) (u i j)) (u i j) ≡ cond (ltb i n && ltb j n) (turned r p q (at a) i j)
            (at a i j)
        by-use (no o) = rw (le-ltb i n (omega arith)) (u-other i j l m (omega arith) (omega arith))
        by-use (yes o) = rw (lt-ltb i n o, u-p i l, u-q i l, lt-ltb i n o) (in_row i j l m (place p q i) (place p q j))

    pub matrix : square (mirror_of p q (at (square (block_of p q (at (turn_axes n r p q a)) r))) n) ≡ turn_matrix n r p q a
    unfolding turn_matrix array t u
    matrix = square-cong (λ i j l m. entry i j l m)

    -- what the steps ask of each other
    pub cross : at (square (block_of p q (at (turn_axes n r p q a)) r)) p q ≡ at (square (block_of p q (at (turn_axes n r p q a)) r)) q p
    unfolding t u
    cross =
        rw (
          at-eight u p q (omega arith) (omega arith),
          at-eight u q p (omega arith) (omega arith),
          u-p q (omega arith),
          u-q p (omega arith),
          lt-ltb q n k,
          lt-ltb p n (omega arith),
        )
        (sym corner)

  -- the entries of rows p and q after the first pass
  module _ (small : Small a) (turns : TurnFits r) where
    first_small : (j : ℕ) → j < n → nat_abs (t p j) ≤ passed r widest
    first_small j m =
        rw (t-p j (omega arith), lt-ltb j n m)
        (first-size r widest (at a p j) (at a q j) (small.small p j) (small.small q j) turns.positive)

    second-small : (j : ℕ) → j < n → nat_abs (t q j) ≤ passed r widest
    second-small j m =
        let back = back-of r (inverse r) turns refl in
        rw (t-q j (omega arith), lt-ltb j n m, ← inverse-first r (at a p j) (at a q j), ← back.same)
        (first-size (inverse r) widest (at a q j) (at a p j) (small.small q j) (small.small p j) back.turns.positive)

    pub pass : Passed r p q (turn_axes n r p q a)
    unfolding t
    pass = record { pp = first_small p (omega arith); pq = first_small q k; qp = second-small p (omega arith); qq = second-small q k }
