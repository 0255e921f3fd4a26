-- Document 01, 'Making a turn': the whole new matrix and the whole new axes. Indices count from 0 here.
use Rattle.std.specs.Prelude.{ℕ, cond, ◌&&◌, List, [], ◌∷◌, eqb, ltb, get_or, ℤ, pos}
use Rattle.turn.specs.Rotation.{first, second}
use Rattle.turn.specs.declared.pair.Rotation.{Rotation}

-- x at place p, y at place q, z at any other place k
unfoldable pub at_pair : {A : Type 0} → ℕ → ℕ → ℕ → A → A → A → A
at_pair p q k x y z = cond (eqb k p) x (cond (eqb k q) y z)

module _ (r : Rotation) (p q : ℕ) (a : ℕ → ℕ → ℤ) where
  -- Block, first pass: h_pp, h_pq, h_qp and h_qq
  unfoldable pub hpp : ℤ
  hpp = first r (a p p) (a p q)

  unfoldable pub hpq : ℤ
  hpq = first r (a p q) (a q q)

  unfoldable pub hqp : ℤ
  hqp = second r (a p p) (a p q)

  unfoldable pub hqq : ℤ
  hqq = second r (a p q) (a q q)

  -- Block, second pass: the new a_pp, a_pq = a_qp and a_qq
  unfoldable pub newpp : ℤ
  newpp = first r hpp hpq

  unfoldable pub newpq : ℤ
  newpq = second r hpp hpq

  unfoldable pub newqq : ℤ
  newqq = second r hqp hqq

  -- the new a_pj and a_qj: the block's at p and q, and from old entries elsewhere
  unfoldable pub newp : ℕ → ℤ
  newp j = at_pair p q j newpp newpq (first r (a p j) (a q j))

  unfoldable pub newq : ℕ → ℤ
  newq j = at_pair p q j newpq newqq (second r (a p j) (a q j))

  -- the new a_ij: rows p and q, their mirrors, and other entries stay
  unfoldable pub turned : ℕ → ℕ → ℤ
  turned i j = at_pair p q i (newp j) (newq j) (at_pair p q j (newp i) (newq i) (a i j))

  -- the new v_ij, for axes v in the place of a
  unfoldable pub turned_axes : ℕ → ℕ → ℤ
  turned_axes i j = at_pair p q i (first r (a p j) (a q j)) (second r (a p j) (a q j)) (a i j)

-- An 8 by 8 array of arrays, of which the first n rows and columns are in use: its entries, and the array of given ones
unfoldable pub at : List (List ℤ) → ℕ → ℕ → ℤ
at a i j = get_or (get_or a i []) j (pos 0)

unfoldable pub eight : {A : Type 0} → (ℕ → A) → List A
eight f = f 0 ∷ f 1 ∷ f 2 ∷ f 3 ∷ f 4 ∷ f 5 ∷ f 6 ∷ f 7 ∷ []

abbrev pub square : (ℕ → ℕ → ℤ) → List (List ℤ)
square f = eight (λ i. eight (f i))

unfoldable pub array : ℕ → (ℕ → ℕ → ℤ) → (ℕ → ℕ → ℤ) → List (List ℤ)
array n new old = square (λ i j. cond (ltb i n && ltb j n) (new i j) (old i j))

-- The turn takes the whole matrix and gives the whole matrix
unfoldable pub turn_matrix : ℕ → Rotation → ℕ → ℕ → List (List ℤ) → List (List ℤ)
turn_matrix n r p q a = array n (turned r p q (at a)) (at a)

unfoldable pub turn_axes : ℕ → Rotation → ℕ → ℕ → List (List ℤ) → List (List ℤ)
turn_axes n r p q v = array n (turned_axes r p q (at v)) (at v)
