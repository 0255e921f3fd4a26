-- The row bound of demand 3: how far row i of Q is from an axis of S / 2^e with the value a_ii. First of A, then of S, from which A was rounded. In
-- whole numbers: 2^e × D times the error r_i.
use Rattle.std.specs.Prelude.{◌≡◌, refl, Bool, true, false, cond, [], ◌∷◌, ℕ, zero, suc, ◌+◌, ◌*◌, ◌/◌, ◌^◌, ◌<◌, ◌≤◌, eqb, ℤ, neg_ℤ, nat_abs, ◌+ℤ◌}
use Rattle.std.specs.Prelude.{◌-ℤ◌, ◌*ℤ◌}
use Rattle.std.proofs.Common.{sym, ◌∙◌, ap, ap₂, mul-le-mul, mul-le-mul_left, mul-le-mul_right, le_trans, arith, lt-ltb}
use Rattle.std.proofs.Math.Nat.{le_of_mul-le-mul_left}
use Rattle.std.proofs.Math.Decide.{ℕ_discrete}
use Rattle.std.proofs.Math.IntN.{pos}
use Rattle.integer.specs.laws.Ring.{ring, reading}
use Rattle.integer.specs.Square.{sq}
use Rattle.integer.specs.laws.Square.{sq_pos, sq-*ℤ, sq-negℤ}
use Rattle.integer.specs.Sum.{sumℕ}
use Rattle.integer.specs.laws.Sum.{sumℕ-cong, sumℕ-≤, sumℕ-*, term-≤-sumℕ, update, update_same, update_other}
use Rattle.integer.specs.laws.Minkowski.{minkowski, squares-≤-sizes}
use Rattle.integer.specs.Dot.{dot}
use Rattle.integer.specs.laws.Dot.{dot-comm, dot-difference}
use Rattle.integer.specs.Matrix.{Matrix, product, transpose, conjugate, diagonal, squares}
use Rattle.integer.specs.laws.Laws.{nat_abs-*ℤ, one-*ℤ}
use Rattle.integer.specs.laws.Matrix.{diagonal-same, diagonal-other, product-difference, row-≤-squares, squares-*, squares-≤}
use Rattle.integer.specs.RoundedUp.{rounded_up}
use Rattle.ledger.specs.Axis.{error_of, table_error}
use Rattle.ledger.specs.Ledger.{State}
use Rattle.limits.specs.Limits.{half_entry, units}
use Rattle.ledger.specs.Near.{matrix_difference, RowNear}
use Rattle.ledger.specs.laws.Sound.{Sound, rounding}

-- u = 1024 × P_i A − a_ii × P_i
abbrev row_difference : State → ℕ → ℕ → ℤ
row_difference s i k = pos units *ℤ product s.n s.P s.A i k -ℤ s.B i i *ℤ s.P i k

-- u·P_j, where P_i A-as-P_j is (P A Pᵀ)_ij and P_i-as-P_j is D² if j = i, else 0
row-entry : (D : ℕ) (b : ℕ → ℤ) (c : ℤ) (i j : ℕ) →
    pos units *ℤ c -ℤ b i *ℤ diagonal (pos (D * D)) i j ≡ pos (D * D) *ℤ update b i (pos 0) j +ℤ neg_ℤ (pos (D * D) *ℤ b j -ℤ pos units *ℤ c)
row-entry D b c i j = cases (ℕ_discrete j i)
  where
    cases : Dec (j ≡ i) → pos units *ℤ c -ℤ b i *ℤ diagonal (pos (D * D)) i j ≡ pos (D * D) *ℤ update b i (pos 0) j +ℤ neg_ℤ
        (pos (D * D) *ℤ b j -ℤ pos units *ℤ c)
    cases (yes e) = rw (e, diagonal-same (pos (D * D)) i, update_same b i (pos 0)) (ring (pos D ∷ b i ∷ c ∷ []) (search reading depth 20) tt)
    cases (no d) = rw (diagonal-other (pos (D * D)) i j (λ e. d (sym e)), update_other b i (pos 0) j d)
        (ring (pos D ∷ b i ∷ b j ∷ c ∷ []) (search reading depth 20) tt)

conjugate-entry : (n : ℕ) (P A : Matrix) (i j : ℕ) → dot n (product n P A i) (P j) ≡ conjugate n P A i j
unfolding conjugate product
conjugate-entry n P A i j = refl

product-entry : (n : ℕ) (P : Matrix) (i j : ℕ) → dot n (P i) (P j) ≡ product n P (transpose P) i j
unfolding product
product-entry n P i j = refl

-- Σ u² ≤ (D × r_i)², with r_i as it is where nothing was shifted
table-row-near : (s : State) → Sound s → (i : ℕ) → i < s.n →
    sumℕ s.n (λ k. sq (row_difference s i k)) ≤ s.D * error_of s.n 0 s.B s.m i * (s.D * error_of s.n 0 s.B s.m i)
unfolding error_of rounded_up table_error
table-row-near s h i o = le_of_mul-le-mul_left {k = D * D} (le_trans rotated (omega arith)) (omega (arith, mul-le-mul h.positive h.positive))
  where
    n : ℕ
    n = s.n

    D : ℕ
    D = s.D

    X : Matrix
    X = matrix_difference n D s.P s.A s.B

    -- row i of the kept matrix but its diagonal entry
    rest : ℕ → ℤ
    rest = update (s.B i) i (pos 0)

    -- ⌈7m/2⌉, and the sum of |a_ij| over j other than i
    half : ℕ
    half = (7 * s.m + 1) / 2

    size : ℕ
    size = sumℕ n (λ j. cond (eqb j i) 0 (nat_abs (s.B i j)))

    -- u·P_j = D² × a_ij, or 0 where j = i, less X_ij
    entry : (j : ℕ) → j < n → dot n (row_difference s i) (s.P j) ≡ pos (D * D) *ℤ rest j +ℤ neg_ℤ (X i j)
    entry j m =
        dot-difference n (pos units) (s.B i i) (product n s.P s.A i) (s.P i) (s.P j)
        ∙ ap₂ (λ x y. pos units *ℤ x -ℤ s.B i i *ℤ y) (conjugate-entry n s.P s.A i j) (product-entry n s.P i j ∙ h.orthogonal i j o m)
        ∙ row-entry D (s.B i) (conjugate n s.P s.A i j) i j

    rest-size : (j : ℕ) → nat_abs (rest j) ≡ cond (eqb j i) 0 (nat_abs (s.B i j))
    rest-size j = cases (eqb j i)
      where
        cases : (b : Bool) → nat_abs (cond b (pos 0) (s.B i j)) ≡ cond b 0 (nat_abs (s.B i j))
        cases true = refl
        cases false = refl

    off-diagonal : sumℕ n (λ j. sq (pos (D * D) *ℤ rest j)) ≤ D * D * size * (D * D * size)
    off-diagonal =
        rw (sumℕ-cong n (λ j m. sq-*ℤ (pos (D * D)) (rest j)) ∙ sumℕ-* n (sq (pos (D * D))) (λ j. sq (rest j)), sq_pos (D * D))
        (omega (arith, mul-le-mul_left (D * D * (D * D)) (rw (sumℕ-cong n (λ j m. rest-size j)) at (squares-≤-sizes n rest))))

    error : sumℕ n (λ j. sq (neg_ℤ (X i j))) ≤ D * D * half * (D * D * half)
    error = rw (sumℕ-cong n (λ j m. sq-negℤ (X i j))) (omega (arith, row-≤-squares n X i o, h.matrix-near, mul-le-mul rounded-up rounded-up))
      where
        rounded-up : 7 * s.m * (D * D) ≤ 2 * half * (D * D)
        rounded-up = mul-le-mul_right (D * D) (omega arith)

    rotated : D * D * sumℕ n (λ k. sq (row_difference s i k)) ≤ (D * D * size + D * D * half) * (D * D * size + D * D * half)
    rotated = rw (sym (h.parseval (row_difference s i)) ∙ sumℕ-cong n (λ j m. ap sq (entry j m)))
        (minkowski n (D * D * size) (D * D * half) (λ j. pos (D * D) *ℤ rest j) (λ j. neg_ℤ (X i j)) off-diagonal error)

-- what r_i gains for the rounding of the table, times 2^e × D
gained : (e n D : ℕ) → 2 ^ e * (D * table_error e n) ≡ half_entry * (n * rounding e) * D
unfolding table_error
gained zero n D = omega arith
gained (suc e) n D = rw (lt-ltb 0 (suc e) (omega arith)) (regroup (2 ^ suc e) n D)
  where
    regroup : (w n D : ℕ) → w * (D * (half_entry * n)) ≡ half_entry * (n * w) * D
    regroup w n D = omega arith

-- E = 2^e × A − S, times row i of P: by Parseval's equation no more than D times the size of E, each entry of which is at most half of 2^e
module _ (s : State) (h : Sound s) where
  E : Matrix
  E j k = pos (2 ^ s.e) *ℤ s.A j k -ℤ pos 1 *ℤ s.S j k

  E-size : 4 * squares s.n (transpose E) ≤ s.n * rounding s.e * (s.n * rounding s.e)
  unfolding E
  E-size = omega (arith, rw (squares-* s.n (pos 2) (transpose E), sq_pos 2) at twice)
    where
      twice : squares s.n (λ k l. pos 2 *ℤ transpose E k l) ≤ s.n * rounding s.e * (s.n * rounding s.e)
      twice =
          squares-≤ s.n (rounding s.e) (λ k l. pos 2 *ℤ transpose E k l)
          (λ k l o m. rw (nat_abs-*ℤ (pos 2) (transpose E k l), one-*ℤ (s.S l k)) (h.rounded l k m o))

  row-of-E : (i : ℕ) → i < s.n → sumℕ s.n (λ k. sq (product s.n s.P E i k)) ≤ s.D * s.D * squares s.n (transpose E)
  unfolding product squares
  row-of-E i o =
      rw (← sumℕ-* s.n (s.D * s.D) (λ k. sumℕ s.n (λ l. sq (E l k))))
      (sumℕ-≤ s.n (λ k m.
      rw (← h.parseval (λ l. E l k))
      (rw (dot-comm s.n (s.P i) (λ l. E l k)) (term-≤-sumℕ s.n i (λ j. sq (dot s.n (λ l. E l k) (s.P j))) o))))

  row-E : (i k : ℕ) →
      product s.n s.P E i k ≡ pos (2 ^ s.e) *ℤ product s.n s.P s.A i k -ℤ pos 1 *ℤ product s.n s.P s.S i k
  unfolding E
  row-E i k = λ t. product-difference s.n (pos (2 ^ s.e)) (pos 1) s.P s.A s.S t i k

error-parts : (n e : ℕ) (a : Matrix) (m i w D : ℕ) → w * (D * error_of n e a m i) ≡ w * (D * error_of n 0 a m i) + w * (D * table_error e n)
unfolding error_of table_error
error-parts n e a m i w D = regroup w D _ _
  where
    regroup : (w D r t : ℕ) → w * (D * (r + t)) ≡ w * (D * (r + 0)) + w * (D * t)
    regroup w D r t = omega arith

-- 1024 × (P S)_ik − 2^e × a_ii × P_ik, as 2^e times that of A, less 1024 × (P E)_ik
row-parts : (w : ℕ) (a c b p : ℤ) →
    pos units *ℤ c -ℤ pos w *ℤ (b *ℤ p) ≡ pos w *ℤ (pos units *ℤ a -ℤ b *ℤ p) +ℤ neg_ℤ (pos units *ℤ (pos w *ℤ a -ℤ pos 1 *ℤ c))
row-parts w a c b p = ring (pos w ∷ a ∷ c ∷ b ∷ p ∷ []) (search reading depth 20) tt

-- with r_i as the axis call answers it
pub row_near : (s : State) → Sound s → (i : ℕ) → i < s.n →
    RowNear s.n s.D s.P s.S s.e i (s.B i i) (error_of s.n s.e s.B s.m i)
row_near s h i o = rw (sumℕ-cong n (λ k m. ap sq (entry k)), whole) (minkowski n α β first second of-A of-E)
  where
    n : ℕ
    n = s.n

    D : ℕ
    D = s.D

    w : ℕ
    w = 2 ^ s.e

    r₀ : ℕ
    r₀ = error_of n 0 s.B s.m i

    α : ℕ
    α = w * (D * r₀)

    β : ℕ
    β = half_entry * (n * rounding s.e) * D

    first : ℕ → ℤ
    first k = pos w *ℤ row_difference s i k

    second : ℕ → ℤ
    second k = neg_ℤ (pos units *ℤ product n s.P (E s h) i k)

    entry : (k : ℕ) → pos units *ℤ product n s.P s.S i k -ℤ pos w *ℤ (s.B i i *ℤ s.P i k) ≡ first k +ℤ second k
    entry k =
        row-parts w (product n s.P s.A i k) (product n s.P s.S i k) (s.B i i) (s.P i k)
        ∙ ap (λ z. first k +ℤ neg_ℤ (pos units *ℤ z)) (sym (row-E s h i k))

    of-A : sumℕ n (λ k. sq (first k)) ≤ α * α
    of-A =
        rw (sumℕ-cong n (λ k m. sq-*ℤ (pos w) (row_difference s i k)) ∙ sumℕ-* n (sq (pos w)) (λ k. sq (row_difference s i k)), sq_pos w)
        (omega (arith, mul-le-mul_left (w * w) (table-row-near s h i o)))

    of-E : sumℕ n (λ k. sq (second k)) ≤ β * β
    of-E =
        rw (
          sumℕ-cong n (λ k m. sq-negℤ (pos units *ℤ product n s.P (E s h) i k) ∙ sq-*ℤ (pos units) (product n s.P (E s h) i k))
              ∙ sumℕ-* n (sq (pos units)) (λ k. sq (product n s.P (E s h) i k)),
          sq_pos units,
        )
        (omega (arith, mul-le-mul_left (units * units) (row-of-E s h i o), mul-le-mul_left (half_entry * half_entry * (D * D)) (E-size s h)))

    whole : w * (D * error_of n s.e s.B s.m i) ≡ α + β
    whole = error-parts n s.e s.B s.m i w D ∙ ap (λ k. α + k) (gained s.e n D)
