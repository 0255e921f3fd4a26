-- Laws of this subject: Document 01's exact rotation R, written whole, that is N times it: it multiplies sums of squares by N², and R Rᵀ is N²
-- times the identity.
use Rattle.std.specs.Prelude.{◌≡◌, refl, ◌≢◌, Bool, true, false, [], ◌∷◌, ℕ, zero, suc, ◌+◌, ◌*◌, ◌<◌, ◌^◌, ℤ, pos, neg_ℤ, ◌+ℤ◌, ◌*ℤ◌, Some}
use Rattle.std.proofs.Common.{sym, ◌∙◌, ap, pow-suc, add-one, arith}
use Rattle.integer.specs.laws.Ring.{ring, linear-combination, reading}
use Rattle.integer.specs.Square.{sq}
use Rattle.integer.specs.Sum.{sumℕ}
use Rattle.integer.specs.Dot.{dot}
use Rattle.integer.specs.laws.Dot.{dot-cong, dot-comm, dot-rotated}
use Rattle.integer.specs.laws.Pair
use Rattle.integer.specs.laws.Pair.{Rotated, rotated-squares, rotated-columns, rotated-matrix}
use Rattle.integer.specs.Matrix.{Matrix, Same, product, transpose, conjugate, diagonal, squares}
use Rattle.integer.specs.laws.Matrix.{conjugate-cong, conjugate-rows, conjugate-diagonal, product-transpose, diagonal-same, diagonal-other}
use Rattle.integer.specs.laws.Matrix.{diagonal-transpose, diagonal-*, dot-diagonal, dot-pair}
use Rattle.choice.specs.Choice.{sign_of, turn_of}
use Rattle.turn.specs.Rotation.{rotation_of}
use Rattle.integer.specs.Signed.{signed}
use Rattle.turn.specs.Turn.{at_pair}
use Rattle.turn.specs.laws.Place.{Place, at_p, at-q, neither, place, at_pair-p, at_pair-q, at_pair-neither, places}
use Rattle.turn.specs.declared.pair.Rotation.{Rotation}
use Rattle.turn.specs.Exact.{exact}

-- c² + s² = N², and N is not 0: all that the theory of a turn uses
pub record Whole (r : Rotation) : Type 0 where
  pub norm : r.c *ℤ r.c +ℤ r.s *ℤ r.s ≡ pos (r.n * r.n)
  pub positive : 0 < r.n

square-of-power : (l : ℕ) → 2 ^ l * 2 ^ l ≡ 4 ^ l
square-of-power zero = refl
square-of-power (suc l) = rw (pow-suc 2 l, pow-suc 4 l) (omega (arith, square-of-power l))

signed-square : (minus : Bool) (x : ℕ) → signed minus x *ℤ signed minus x ≡ pos (x * x)
unfolding signed
signed-square true x = ring (pos x ∷ []) (search reading depth 20) tt
signed-square false x = refl

-- for all l together
pub rotation_of-whole : (l : ℕ) (minus : Bool) → Whole (rotation_of l minus)
unfolding rotation_of
rotation_of-whole l minus = record {
  norm = rw (signed-square minus (2 ^ (l + 1)), add-one l, pow-suc 2 l)
      (linear-combination (pos (4 ^ l) ∷ pos (2 ^ l) ∷ []) (pos 4) (ap pos (square-of-power l)) (search reading depth 20) tt);
  positive = omega arith;
}

-- 's = f × 2^(l+1)', with f as the choice of a turn gives it
pub rotation_of-sign : (l : ℕ) (minus : Bool) → (rotation_of l minus).s ≡ sign_of (Some (turn_of l minus)) *ℤ pos (2 ^ (l + 1))
unfolding rotation_of signed sign_of
rotation_of-sign l true = ring (pos (2 ^ (l + 1)) ∷ []) (search reading depth 20) tt
rotation_of-sign l false = ring (pos (2 ^ (l + 1)) ∷ []) (search reading depth 20) tt

module _ (r : Rotation) (n p q : ℕ) (l : p < q) (k : q < n) where
  row-p : (j : ℕ) → exact r p q p j ≡ at_pair p q j r.c r.s (pos 0)
  unfolding exact
  row-p j = at_pair-p p q _ _ _

  row-q : (j : ℕ) → exact r p q q j ≡ at_pair p q j (neg_ℤ r.s) r.c (pos 0)
  unfolding exact
  row-q j = at_pair-q p q _ _ _ l

  row-neither : (i j : ℕ) → i ≢ p → i ≢ q → exact r p q i j ≡ diagonal (pos r.n) i j
  unfolding exact
  row-neither i j d e = at_pair-neither p q i _ _ _ d e

  pair_row : (α β : ℤ) (x : ℕ → ℤ) → dot n (λ j. at_pair p q j α β (pos 0)) x ≡ α *ℤ x p +ℤ β *ℤ x q
  pair_row α β x = dot-pair n p q (λ j. at_pair p q j α β (pos 0)) x l k (λ i o d e. at_pair-neither p q i α β (pos 0) d e) ∙ simp places

  -- R x is x rotated
  exact-vector : (x : ℕ → ℤ) → Rotated n p q r.n r.c r.s x (λ i. dot n (exact r p q i) x)
  exact-vector x = record {
    first = dot-cong n (λ j o. row-p j) (λ j o. refl) ∙ pair_row r.c r.s x;
    second = dot-cong n (λ j o. row-q j) (λ j o. refl) ∙ pair_row (neg_ℤ r.s) r.c x;
    other = λ i o d e. dot-cong n (λ j o. row-neither i j d e) (λ j o. refl) ∙ dot-diagonal n (pos r.n) x i o;
  }

  -- R X: each column is rotated
  pub exact-rows : (X : Matrix) (j : ℕ) → Rotated n p q r.n r.c r.s (λ i. X i j) (λ i. product n (exact r p q) X i j)
  unfolding product
  exact-rows X j = exact-vector (λ i. X i j)

  -- X Rᵀ: each row is rotated
  pub exact-columns : (X : Matrix) (i : ℕ) → Rotated n p q r.n r.c r.s (X i) (product n X (transpose (exact r p q)) i)
  unfolding product
  exact-columns X i = record {
    first = dot-comm n (X i) (exact r p q p) ∙ (exact-vector (X i)).first;
    second = dot-comm n (X i) (exact r p q q) ∙ (exact-vector (X i)).second;
    other = λ j o d e. dot-comm n (X i) (exact r p q j) ∙ (exact-vector (X i)).other j o d e;
  }

  -- The exact rotation keeps the sum of squares of a column, of a matrix, and of a matrix turned from both sides
  module _ (w : Whole r) where
    rotation : Pair.Rotation n p q r.n r.c r.s
    rotation = record { ordered = l; within = k; norm = w.norm }

    pub exact-column-squares : (X : Matrix) (j : ℕ) → sumℕ n (λ i. sq (product n (exact r p q) X i j)) ≡ r.n * r.n * sumℕ n (λ i. sq (X i j))
    exact-column-squares X j = rotated-squares (λ i. X i j) (λ i. product n (exact r p q) X i j) rotation (exact-rows X j)

    pub exact-squares : (X : Matrix) → squares n (product n (exact r p q) X) ≡ r.n * r.n * squares n X
    unfolding squares
    exact-squares X = rotated-columns n X (product n (exact r p q) X) rotation (λ j o. exact-rows X j)

    pub conjugate-squares : (X : Matrix) → squares n (conjugate n (exact r p q) X) ≡ r.n * r.n * (r.n * r.n) * squares n X
    unfolding squares conjugate
    conjugate-squares X = rotated-matrix X (product n (exact r p q) X) (conjugate n (exact r p q) X) rotation (λ j o. exact-rows X j)
        (λ i o. exact-columns (product n (exact r p q) X) i)

    -- R Rᵀ is N² on the diagonal
    pub exact-orthogonal : (i j : ℕ) → i < n → j < n → product n (exact r p q) (transpose (exact r p q)) i j ≡ diagonal (pos (r.n * r.n)) i j
    exact-orthogonal i j = cases (place p q i) (place p q j)
      where
        R : Matrix
        R = exact r p q

        Entry : ℕ → ℕ → Type 0
        Entry i j = product n R (transpose R) i j ≡ diagonal (pos (r.n * r.n)) i j

        mirror : (i j : ℕ) → Entry j i → Entry i j
        mirror i j h = sym (λ t. product-transpose n R (transpose R) t i j) ∙ h ∙ diagonal-transpose (pos (r.n * r.n)) i j

        pair : Entry p q
        pair = rw (diagonal-other (pos (r.n * r.n)) p q (omega arith))
            ((exact-rows (transpose R) q).first ∙ simp (row-q, places) (ring (r.c ∷ r.s ∷ []) (search reading depth 20) tt))

        column : {i j : ℕ} → i ≢ p → i ≢ q → Place p q j → R j i ≡ diagonal (pos r.n) i j
        column {i} d e at_p = rw (diagonal-other (pos r.n) i p d) (simp (row-p, places))
        column {i} d e at-q = rw (diagonal-other (pos r.n) i q e) (simp (row-q, places))
        column {i} d e (neither {i = j} f g) = row-neither j i f g ∙ diagonal-transpose (pos r.n) i j

        rest : {i j : ℕ} → i ≢ p → i ≢ q → Place p q j → i < n → Entry i j
        rest {i} {j} d e v o = (exact-rows (transpose R) j).other i o d e ∙ ap (λ z. pos r.n *ℤ z) (column d e v)
            ∙ diagonal-* (pos r.n) (pos r.n) i j

        cases : {i j : ℕ} → Place p q i → Place p q j → i < n → j < n → Entry i j
        cases at_p at_p o m = (exact-rows (transpose R) p).first ∙ simp (row-p, places, diagonal-same) w.norm
        cases at_p at-q o m = pair
        cases at-q at_p o m = mirror q p pair
        cases at-q at-q o m = (exact-rows (transpose R) q).second
            ∙ simp (row-q, places, diagonal-same) (linear-combination (r.c ∷ r.s ∷ pos r.n ∷ []) (pos 1) w.norm (search reading depth 20) tt)
        cases at_p (neither {i = j} d e) o m = mirror p j (rest d e at_p m)
        cases at-q (neither {i = j} d e) o m = mirror q j (rest d e at-q m)
        cases (neither d e) v o m = rest d e v o

    -- Rows that are orthogonal, all of one length, stay so in R P
    pub exact-keeps-orthogonal : (P : Matrix) (k : ℕ) → Same n (product n P (transpose P)) (diagonal (pos k)) →
        Same n (product n (product n (exact r p q) P) (transpose (product n (exact r p q) P))) (diagonal (pos (k * (r.n * r.n))))
    exact-keeps-orthogonal P k h i j o m =
        (λ t. conjugate-rows n (exact r p q) P t i j) ∙ conjugate-cong n (λ i j o m. refl) h i j o m ∙ conjugate-diagonal n (pos k) (exact r p q) i j
        ∙ ap (λ z. pos k *ℤ z) (exact-orthogonal i j o m) ∙ diagonal-* (pos k) (pos (r.n * r.n)) i j

    -- The products of a vector with the rows of R P: their squares sum to N² times those with the rows of P
    pub exact-dot-squares : (u : ℕ → ℤ) (P : Matrix) →
        sumℕ n (λ i. sq (dot n u (product n (exact r p q) P i))) ≡ r.n * r.n * sumℕ n (λ i. sq (dot n u (P i)))
    exact-dot-squares u P = rotated-squares (λ i. dot n u (P i)) (λ i. dot n u (product n (exact r p q) P i)) rotation
        (dot-rotated n u P (product n (exact r p q) P) (λ j o. exact-rows P j))
