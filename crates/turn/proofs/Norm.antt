-- How one turn bounds sizes: the norm of the matrix grows by less than 4, that of each column of the axes by at most 1.
use Rattle.std.specs.Prelude.{◌≡◌, [], ◌∷◌, ℕ, ◌+◌, ◌*◌, ◌<◌, ◌≤◌, ℤ, pos, ◌+ℤ◌, ◌-ℤ◌, ◌*ℤ◌}
use Rattle.std.proofs.Common.{sym, ◌∙◌, ap, mul-le-mul, mul-le-mul_left, le_trans, arith}
use Rattle.std.proofs.Math.Nat.{le_of_mul-le-mul_left}
use Rattle.integer.specs.laws.Ring.{ring, reading}
use Rattle.integer.specs.Square.{sq}
use Rattle.integer.specs.laws.Square.{sq_pos, sq-*ℤ}
use Rattle.integer.specs.Sum.{sumℕ}
use Rattle.integer.specs.laws.Sum.{sumℕ-*, sumℕ-cong}
use Rattle.integer.specs.laws.Minkowski.{minkowski}
use Rattle.integer.specs.Matrix.{Matrix, product, conjugate, squares}
use Rattle.integer.specs.laws.Matrix.{squares-cong, squares-*, squares-+}
use Rattle.integer.specs.Matrix.{Symmetric}
use Rattle.turn.specs.Turn.{turned, turned_axes}
use Rattle.turn.specs.Exact.{exact}
use Rattle.turn.specs.laws.Exact.{Whole, exact-column-squares, conjugate-squares}
use Rattle.turn.specs.laws.Error.{matrix_error, axes_error}
use Rattle.turn.proofs.Error.{matrix-error, axes-column-error}
use Rattle.turn.specs.declared.pair.Rotation.{Rotation}

-- what is bounded after multiplying by K is bounded
kept : (K S t b : ℕ) → 0 < K → K * K * S ≤ b * b → b ≤ K * t → S ≤ t * t
kept K S t b o h g = le_of_mul-le-mul_left {k = K * K} (le_trans h (omega (arith, mul-le-mul g g))) (omega (arith, mul-le-mul o o))

module _ (r : Rotation) (n p q : ℕ) (l : p < q) (k : q < n) (whole : Whole r) where
  -- The norm of the matrix grows by less than 4 in a turn
  pub turned-squares : n ≤ 8 → (a : Matrix) → Symmetric n a → (α : ℕ) → squares n a ≤ α * α → squares n (turned r p q a) ≤ (α + 4) * (α + 4)
  turned-squares b a h α g =
      kept (2 * K) _ (α + 4) (2 * K * α + 7 * K) (omega (arith, mul-le-mul whole.positive whole.positive))
      (rw multiplied (squares-+ n (2 * K * α) (7 * K) (λ i j. pos 2 *ℤ C i j) (λ i j. pos 2 *ℤ matrix_error n r p q a i j) exactly error))
      (omega arith)
    where
      K : ℕ
      K = r.n * r.n

      C : Matrix
      C = conjugate n (exact r p q) a

      parts : (i j : ℕ) → pos (2 * K) *ℤ turned r p q a i j ≡ pos 2 *ℤ C i j +ℤ pos 2 *ℤ matrix_error n r p q a i j
      parts i j = ring (pos K ∷ turned r p q a i j ∷ C i j ∷ []) (search reading depth 20) tt

      multiplied : 2 * K * (2 * K) * squares n (turned r p q a) ≡ squares n (λ i j. pos 2 *ℤ C i j +ℤ pos 2 *ℤ matrix_error n r p q a i j)
      multiplied = rw (← sq_pos (2 * K)) (sym (squares-* n (pos (2 * K)) (turned r p q a)) ∙ squares-cong n (λ i j o m. parts i j))

      exactly : squares n (λ i j. pos 2 *ℤ C i j) ≤ 2 * K * α * (2 * K * α)
      exactly = rw (squares-* n (pos 2) C, sq_pos 2, conjugate-squares r n p q l k whole a) (omega (arith, mul-le-mul_left (K * K) g))

      error : squares n (λ i j. pos 2 *ℤ matrix_error n r p q a i j) ≤ 7 * K * (7 * K)
      error = rw (squares-* n (pos 2) (matrix_error n r p q a), sq_pos 2) (omega (arith, matrix-error r n p q l k whole b a h))

  -- The norm of each column of the axes grows by at most 1 in a turn
  pub axes-column : (v : Matrix) (j β : ℕ) → sumℕ n (λ i. sq (v i j)) ≤ β * β → sumℕ n (λ i. sq (turned_axes r p q v i j)) ≤ (β + 1) * (β + 1)
  axes-column v j β g =
      kept N _ (β + 1) (N * β + N) whole.positive
      (rw multiplied (minkowski n (N * β) N RV (λ i. axes_error n r p q v i j) exactly (omega (arith, axes-column-error r n p q l k whole v j))))
      (omega arith)
    where
      N : ℕ
      N = r.n

      RV : ℕ → ℤ
      RV i = product n (exact r p q) v i j

      entry : (x y : ℤ) → N * N * sq y ≡ sq (x +ℤ (pos N *ℤ y -ℤ x))
      entry x y = rw (← sq_pos N, ← sq-*ℤ (pos N) y) (ap sq (ring (pos N ∷ x ∷ y ∷ []) (search reading depth 20) tt))

      multiplied : N * N * sumℕ n (λ i. sq (turned_axes r p q v i j)) ≡ sumℕ n (λ i. sq (RV i +ℤ axes_error n r p q v i j))
      multiplied = sym (sumℕ-* n (N * N) (λ i. sq (turned_axes r p q v i j))) ∙ sumℕ-cong n (λ i o. entry (RV i) (turned_axes r p q v i j))

      exactly : sumℕ n (λ i. sq (RV i)) ≤ N * β * (N * β)
      exactly = rw (exact-column-squares r n p q l k whole v j) (omega (arith, mul-le-mul_left (N * N) g))
