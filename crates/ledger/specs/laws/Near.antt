-- How near the kept matrix and axes are to the exact ones, and what one turn adds: 7/2 and 2, times D² and D.
use Rattle.std.specs.Prelude.{◌≡◌, [], ◌∷◌, ℕ, suc, ◌+◌, ◌*◌, ◌<◌, ◌≤◌, pos, ◌+ℤ◌, ◌*ℤ◌}
use Rattle.std.proofs.Common.{sym, ◌∙◌, ap, mul-le-mul_left, arith}
use Rattle.integer.specs.laws.Laws.{*ℤ-+ℤ}
use Rattle.integer.specs.laws.Ring.{ring, reading}
use Rattle.integer.specs.laws.Square.{sq_pos}
use Rattle.integer.specs.Matrix.{Matrix, product, conjugate, squares}
use Rattle.integer.specs.laws.Matrix.{product-difference, conjugate-product, conjugate-difference, squares-cong, squares-*, squares-+}
use Rattle.integer.specs.Matrix.{Symmetric}
use Rattle.turn.specs.laws.Error.{matrix_error, axes_error}
use Rattle.turn.proofs.Error.{matrix-error, axes-error}
use Rattle.turn.specs.Exact.{exact}
use Rattle.turn.specs.laws.Exact.{Whole, exact-squares, conjugate-squares}
use Rattle.turn.specs.Turn.{turned, turned_axes}
use Rattle.turn.specs.declared.pair.Rotation.{Rotation}
use Rattle.limits.specs.Limits.{units, whole}
use Rattle.ledger.specs.Near.{matrix_difference, axes_difference, MatrixNear, AxesNear}

-- Minkowski's inequality, of halves
halves-+ : (n α β : ℕ) (X Y : Matrix) → 4 * squares n X ≤ α * α → 4 * squares n Y ≤ β * β → 4 * squares n (λ i j. X i j +ℤ Y i j) ≤ (α + β) * (α + β)
halves-+ n α β X Y h g =
    rw (twice (λ i j. X i j +ℤ Y i j) ∙ squares-cong n (λ i j o m. *ℤ-+ℤ (pos 2) (X i j) (Y i j)))
    (squares-+ n α β (λ i j. pos 2 *ℤ X i j) (λ i j. pos 2 *ℤ Y i j) (rw (← twice X) h) (rw (← twice Y) g))
  where
    twice : (X : Matrix) → 4 * squares n X ≡ squares n (λ i j. pos 2 *ℤ X i j)
    twice X = sym (squares-* n (pos 2) X ∙ ap (λ k. k * squares n X) (sq_pos 2))

module _ (r : Rotation) (n p q : ℕ) (l : p < q) (k : q < n) (turning : Whole r) (b : n ≤ 8) (m D : ℕ) (P : Matrix) where
  abbrev N : ℕ
  N = r.n

  abbrev R : Matrix
  R = exact r p q

  -- X' = R X Rᵀ + D² × E
  pub matrix-near-turn : (A B : Matrix) → Symmetric n B → MatrixNear n m D P A B → MatrixNear n (suc m) (N * D) (product n R P) A (turned r p q B)
  matrix-near-turn A B h near = rw (squares-cong n (λ i j o m. parts i j))
      (omega (
        arith,
        halves-+ n (N * N * (7 * m * (D * D))) (7 * (N * N) * (D * D)) (conjugate n R X)
            (λ i j. pos (D * D) *ℤ E i j) turned-part new-part,
      ))
    where
      X : Matrix
      X = matrix_difference n D P A B

      E : Matrix
      E = matrix_error n r p q B

      parts : (i j : ℕ) → matrix_difference n (N * D) (product n R P) A (turned r p q B) i j ≡ conjugate n R X i j +ℤ pos (D * D) *ℤ E i j
      parts i j =
          rw (conjugate-product n R P A, conjugate-difference n (pos (D * D)) (pos units) R B (conjugate n P A))
          (ring (pos N ∷ pos D ∷ turned r p q B i j ∷ conjugate n R B i j ∷ conjugate n R (conjugate n P A) i j ∷ []) (search reading depth 20) tt)

      turned-part : 4 * squares n (conjugate n R X) ≤ N * N * (7 * m * (D * D)) * (N * N * (7 * m * (D * D)))
      turned-part = rw (conjugate-squares r n p q l k turning X) (omega (arith, mul-le-mul_left (N * N * (N * N)) near))

      new-part : 4 * squares n (λ i j. pos (D * D) *ℤ E i j) ≤ 7 * (N * N) * (D * D) * (7 * (N * N) * (D * D))
      new-part = rw (squares-* n (pos (D * D)) E, sq_pos (D * D))
          (omega (arith, mul-le-mul_left (D * D * (D * D)) (matrix-error r n p q l k turning b B h)))

  -- Y' = R Y + D × F
  pub axes-near-turn : (v : Matrix) → AxesNear n m D P v → AxesNear n (suc m) (N * D) (product n R P) (turned_axes r p q v)
  axes-near-turn v near = rw (squares-cong n (λ i j o m. parts i j))
      (omega (arith, squares-+ n (N * (2 * m * D)) (2 * N * D) (product n R Y) (λ i j. pos D *ℤ F i j) turned-part new-part))
    where
      Y : Matrix
      Y = axes_difference D P v

      F : Matrix
      F = axes_error n r p q v

      parts : (i j : ℕ) → axes_difference (N * D) (product n R P) (turned_axes r p q v) i j ≡ product n R Y i j +ℤ pos D *ℤ F i j
      parts i j =
          rw (product-difference n (pos D) (pos whole) R v P)
          (ring (pos N ∷ pos D ∷ turned_axes r p q v i j ∷ product n R v i j ∷ product n R P i j ∷ []) (search reading depth 20) tt)

      turned-part : squares n (product n R Y) ≤ N * (2 * m * D) * (N * (2 * m * D))
      turned-part = rw (exact-squares r n p q l k turning Y) (omega (arith, mul-le-mul_left (N * N) near))

      new-part : squares n (λ i j. pos D *ℤ F i j) ≤ 2 * N * D * (2 * N * D)
      new-part = rw (squares-* n (pos D) F, sq_pos D) (omega (arith, mul-le-mul_left (D * D) (axes-error r n p q l k turning b v)))
