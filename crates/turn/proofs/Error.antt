-- How far one turn, with its roundings, is from the exact rotation: at most 7/2 for the matrix and 2 for the axes. In whole numbers: N² and N
-- times so far.
use Rattle.std.specs.Prelude.{◌≡◌, ◌≢◌, [], ◌∷◌, ℤ, pos, neg_ℤ, ◌+ℤ◌, ◌*ℤ◌}
use Rattle.std.proofs.Common.{sym, ◌∙◌, ap, arith}
use Prim.Native.Nat.{ℕ, zero, suc, ◌+◌, ◌*◌, ◌<◌, ◌≤◌}
use Rattle.std.proofs.Math.Nat.{mul-le-mul_right, le_trans}
use Rattle.integer.specs.laws.Laws.{*ℤ-assoc}
use Rattle.integer.specs.laws.Ring.{linear-combination, reading}
use Rattle.integer.specs.Square.{sq}
use Rattle.integer.specs.Sum.{sumℕ}
use Rattle.integer.specs.laws.Sum.{sumℕ-*, sumℕ-+, sumℕ-cong, sumℕ-const, sumℕ-exchange}
use Rattle.integer.specs.laws.Pair.{Rotated}
use Rattle.integer.specs.Matrix.{Matrix, product, conjugate, squares}
use Rattle.integer.specs.laws.Matrix.{conjugate-symmetric}
use Rattle.integer.specs.Matrix.{Symmetric}
use Rattle.rounding.specs.Rounding.{rnd}
use Rattle.turn.specs.Rotation.{first, second}
use Rattle.turn.specs.Turn.{turned, turned_axes, hpp, hpq, hqp, hqq, newpp, newpq, newqq, newp, newq}
use Rattle.turn.specs.laws.Place.{Place, at_p, at-q, neither, place, places, in_pair, sum-in_pair}
use Rattle.turn.specs.Exact.{exact}
use Rattle.turn.specs.laws.Exact.{Whole, exact-rows, exact-columns}
use Rattle.turn.specs.laws.Rounded.{rounded, unmoved, rounded-once, rounded-twice}
use Rattle.turn.specs.laws.Error.{matrix_error, axes_error}
use Rattle.turn.specs.laws.Symmetry.{turned-symmetric}
use Rattle.turn.specs.declared.pair.Rotation.{Rotation}

-- what bounds each term bounds the sum
sum_bound : (n k M : ℕ) (f w : ℕ → ℕ) → ((i : ℕ) → i < n → k * f i ≤ w i * M) → k * sumℕ n f ≤ sumℕ n w * M
unfolding sumℕ
sum_bound zero k M f w h = omega arith
sum_bound (suc n) k M f w h = omega (arith, sum_bound n k M f w (λ i o. h i (omega arith)), h n (omega arith))

-- E is 0 off rows and columns p, q; in them off the block 4E² ≤ N⁴, and in the block 4E² ≤ 6N⁴
weight : ℕ → ℕ → ℕ → ℕ → ℕ
weight p q i j = in_pair p q i + in_pair p q j + 4 * (in_pair p q i * in_pair p q j)

weight-row : (n p q i : ℕ) → p < q → q < n → sumℕ n (weight p q i) ≡ (n + 8) * in_pair p q i + 2
unfolding weight
weight-row n p q i l k =
    rw (
      sumℕ-+ n (λ j. in_pair p q i + in_pair p q j) (λ j. 4 * (in_pair p q i * in_pair p q j)),
      sumℕ-+ n (λ j. in_pair p q i) (in_pair p q),
      sumℕ-* n 4 (λ j. in_pair p q i * in_pair p q j),
      sumℕ-* n (in_pair p q i) (in_pair p q),
      sumℕ-const n (in_pair p q i),
      sum-in_pair n p q l k,
    )
    (omega arith)

weight-total : (n p q : ℕ) → p < q → q < n → sumℕ n (λ i. sumℕ n (weight p q i)) ≡ 4 * n + 16
weight-total n p q l k =
    sumℕ-cong n (λ i o. weight-row n p q i l k)
    ∙ rw (sumℕ-+ n (λ i. (n + 8) * in_pair p q i) (λ i. 2), sumℕ-* n (n + 8) (in_pair p q), sumℕ-const n 2, sum-in_pair n p q l k) (omega arith)

module _ (r : Rotation) (n p q : ℕ) (l : p < q) (k : q < n) (whole : Whole r) where
  -- one entry of the new matrix
  entry-error : (a : Matrix) → Symmetric n a → (i j : ℕ) → i < n → j < n →
      4 * sq (matrix_error n r p q a i j) ≤ weight p q i j * (r.n * r.n * (r.n * r.n))
  unfolding weight in_pair turned newp newq newpp newpq newqq hpp hpq hqp hqq first second conjugate
  entry-error a h i j = cases (place p q i) (place p q j)
    where
      N : ℕ
      N = r.n

      Bounded : ℕ → ℕ → Type 0
      Bounded i j = 4 * sq (matrix_error n r p q a i j) ≤ weight p q i j * (N * N * (N * N))

      mirror : (i j : ℕ) → i < n → j < n → Bounded j i → Bounded i j
      mirror i j o m b = rw (turned-symmetric r p q a l i j (h i j o m), conjugate-symmetric n (exact r p q) a h i j o m) (omega (arith, b))

      -- the first pass, and the second one, without rounding
      H : Matrix
      H = product n (exact r p q) a

      rows : (j : ℕ) → Rotated n p q N r.c r.s (λ i. a i j) (λ i. H i j)
      rows = exact-rows r n p q l k a

      columns : (i : ℕ) → Rotated n p q N r.c r.s (H i) (conjugate n (exact r p q) a i)
      columns = exact-columns r n p q l k H

      once : (i j : ℕ) → weight p q i j ≡ 1 → turned r p q a i j ≡ rnd (H i j) N → conjugate n (exact r p q) a i j ≡ pos N *ℤ H i j → Bounded i j
      once i j d e f = rw (d, e, f) (omega (arith, rounded-once (H i j) N whole.positive))

      twice : (i j : ℕ) (α β : ℤ) → α *ℤ α +ℤ β *ℤ β ≡ pos (N * N) → weight p q i j ≡ 6 →
          turned r p q a i j ≡ rnd (α *ℤ rnd (H i p) N +ℤ β *ℤ rnd (H i q) N) N →
          conjugate n (exact r p q) a i j ≡ α *ℤ H i p +ℤ β *ℤ H i q → Bounded i j
      twice i j α β g d e f = rw (d, e, f) (rounded-twice α β (H i p) (H i q) N whole.positive g)

      second-norm : neg_ℤ r.s *ℤ neg_ℤ r.s +ℤ r.c *ℤ r.c ≡ pos (N * N)
      second-norm = linear-combination (r.c ∷ r.s ∷ pos N ∷ []) (pos 1) whole.norm (search reading depth 20) tt

      pq : Bounded p q
      pq = twice p q (neg_ℤ r.s) r.c second-norm (simp places) (rw ((rows p).first, (rows q).first, h q p k (omega arith)) (simp places))
          (columns p).second

      pj : {j : ℕ} → j ≢ p → j ≢ q → j < n → Bounded p j
      pj {j} d e o = once p j (simp places) (rw (rows j).first (simp places)) ((columns p).other j o d e)

      qj : {j : ℕ} → j ≢ p → j ≢ q → j < n → Bounded q j
      qj {j} d e o = once q j (simp places) (rw (rows j).second (simp places)) ((columns q).other j o d e)

      ij : {i j : ℕ} → i ≢ p → i ≢ q → j ≢ p → j ≢ q → turned r p q a i j ≡ a i j
      ij d e f g = simp places

      cases : {i j : ℕ} → Place p q i → Place p q j → i < n → j < n → Bounded i j
      cases at_p at_p o m = twice p p r.c r.s whole.norm (simp places)
          (rw ((rows p).first, (rows q).first, h q p k (omega arith)) (simp places)) (columns p).first
      cases at_p at-q o m = pq
      cases at-q at_p o m = mirror q p o m pq
      cases at-q at-q o m = twice q q (neg_ℤ r.s) r.c second-norm (simp places)
          (rw ((rows p).second, (rows q).second, h q p k (omega arith)) (simp places)) (columns q).second
      cases at_p (neither d e) o m = pj d e m
      cases at-q (neither d e) o m = qj d e m
      cases (neither {i} d e) at_p o m = mirror i p o m (pj d e o)
      cases (neither {i} d e) at-q o m = mirror i q o m (qj d e o)
      cases (neither {i} d e) (neither {i = j} f g) o m =
          unmoved _ _ _ (ap (λ z. pos (N * N) *ℤ z) (ij d e f g) ∙ *ℤ-assoc (pos N) (pos N) (a i j)
          ∙ sym ((columns i).other j m f g ∙ ap (λ z. pos N *ℤ z) ((rows j).other i o d e)))

  -- the new a_pq
  pub pair-error : (a : Matrix) → Symmetric n a → 4 * sq (matrix_error n r p q a p q) ≤ 6 * (r.n * r.n * (r.n * r.n))
  unfolding weight in_pair
  pair-error a h = rw pair-weight at (entry-error a h p q (omega arith) k)
    where
      pair-weight : weight p q p q ≡ 6
      pair-weight = simp places

  -- The matrix is moved by at most 7/2 in norm
  pub matrix-error : n ≤ 8 → (a : Matrix) → Symmetric n a → 4 * squares n (matrix_error n r p q a) ≤ 49 * (r.n * r.n * (r.n * r.n))
  unfolding squares
  matrix-error b a h = le_trans sums (mul-le-mul_right (r.n * r.n * (r.n * r.n)) (omega (arith, weight-total n p q l k)))
    where
      sums : 4 * squares n (matrix_error n r p q a) ≤ sumℕ n (λ i. sumℕ n (weight p q i)) * (r.n * r.n * (r.n * r.n))
      sums = sum_bound n 4 _ _ _ (λ i o. sum_bound n 4 _ _ _ (λ j m. entry-error a h i j o m))

  -- one entry of the new axes: F is 0 off rows p and q, and in them 4F² ≤ N²
  axis-error : (v : Matrix) (i j : ℕ) → i < n → 4 * sq (axes_error n r p q v i j) ≤ in_pair p q i * (r.n * r.n)
  unfolding in_pair turned_axes first second
  axis-error v i j = cases (place p q i)
    where
      rows : Rotated n p q r.n r.c r.s (λ i. v i j) (λ i. product n (exact r p q) v i j)
      rows = exact-rows r n p q l k v j

      once : (i : ℕ) (u : ℤ) → in_pair p q i ≡ 1 → turned_axes r p q v i j ≡ rnd u r.n → product n (exact r p q) v i j ≡ u →
          4 * sq (axes_error n r p q v i j) ≤ in_pair p q i * (r.n * r.n)
      once i u d e f = rw (d, e, f) (omega (arith, rounded u r.n whole.positive))

      stays : {i : ℕ} → i ≢ p → i ≢ q → turned_axes r p q v i j ≡ v i j
      stays d e = simp places

      cases : {i : ℕ} → Place p q i → i < n → 4 * sq (axes_error n r p q v i j) ≤ in_pair p q i * (r.n * r.n)
      cases at_p o = once p _ (simp places) (simp places) rows.first
      cases at-q o = once q _ (simp places) (simp places) rows.second
      cases (neither {i} d e) o = unmoved _ _ _ (ap (λ z. pos r.n *ℤ z) (stays d e) ∙ sym (rows.other i o d e))

  -- each column of the axes
  pub axes-column-error : (v : Matrix) (j : ℕ) → 2 * sumℕ n (λ i. sq (axes_error n r p q v i j)) ≤ r.n * r.n
  axes-column-error v j = omega (
    arith,
    rw (sum-in_pair n p q l k) at (sum_bound n 4 (r.n * r.n) (λ i. sq (axes_error n r p q v i j)) (in_pair p q) (λ i o. axis-error v i j o)),
  )

  -- The axes are moved by at most 2 in norm
  pub axes-error : n ≤ 8 → (v : Matrix) → squares n (axes_error n r p q v) ≤ 4 * (r.n * r.n)
  unfolding squares
  axes-error b v = rw (sumℕ-exchange n n (λ i j. sq (axes_error n r p q v i j)))
      (omega (arith, rw (sumℕ-const n 1) at sums, mul-le-mul_right (r.n * r.n) b))
    where
      sums : 2 * sumℕ n (λ j. sumℕ n (λ i. sq (axes_error n r p q v i j))) ≤ sumℕ n (λ j. 1) * (r.n * r.n)
      sums = sum_bound n 2 (r.n * r.n) _ _ (λ j o. omega (arith, axes-column-error v j))
