-- Minkowski's inequality for sums of squares, without roots, and Cauchy's for two terms.
use Rattle.std.specs.Prelude.{◌≡◌, [], ◌∷◌, ℕ, zero, suc, ◌+◌, ◌*◌, ◌≤◌, ◌<◌, ℤ, pos, nat_abs, ◌+ℤ◌, ◌-ℤ◌, ◌*ℤ◌}
use Rattle.std.proofs.Common.{mul-le-mul_left, le_trans, add-le-add, zero-add, add-zero, le_of_suc-le-suc, arith}
use Rattle.std.proofs.Math.Nat.{le_of_mul-le-mul_left, lt_of_mul-lt-mul_left}
use Rattle.std.proofs.Math.Arith.{le-zero}
use Rattle.integer.specs.laws.Ring.{ringℕ}
use Rattle.integer.specs.Square.{sq}
use Rattle.integer.specs.laws.Square.{squares}
use Rattle.integer.specs.Sum.{sumℕ}

-- What (x + y)² is to x² and y², for all weights a and b. It passes to sums of any shape.
abbrev pub Weighted : ℕ → ℕ → ℕ → Type 0
Weighted X Y Z = (a b : ℕ) → a * b * Z ≤ (a + b) * (b * X + a * Y)

pub weighted-sq : (x y : ℤ) → Weighted (sq x) (sq y) (sq (x +ℤ y))
weighted-sq x y a b = omega (arith, identity)
  where
    identity : a * b * sq (x +ℤ y) + sq (pos b *ℤ x -ℤ pos a *ℤ y) ≡ (a + b) * (b * sq x + a * sq y)
    identity = ringℕ (x ∷ y ∷ pos a ∷ pos b ∷ []) (search squares depth 20) tt

pub weighted-sum : (n : ℕ) (X Y Z : ℕ → ℕ) → ((i : ℕ) → i < n → Weighted (X i) (Y i) (Z i)) → Weighted (sumℕ n X) (sumℕ n Y) (sumℕ n Z)
unfolding sumℕ
weighted-sum zero X Y Z h a b = omega arith
weighted-sum (suc n) X Y Z h a b = omega (arith, weighted-sum n X Y Z (λ i l. h i (omega arith)) a b, h n (omega arith) a b)

weighted-zero : (B X Y Z : ℕ) → Weighted X Y Z → X ≤ zero → Y ≤ B → Z ≤ B
weighted-zero B X Y Z w h k = le_of_suc-le-suc
    (lt_of_mul-lt-mul_left (suc B) {m = Z} {n = suc B} (omega (arith, rw (le-zero h) at (w 1 (suc B)), mul-le-mul_left B k)))

weighted-positive : (a b X Y Z : ℕ) → zero < a * b → Weighted X Y Z → X ≤ a * a → Y ≤ b * b → Z ≤ (a + b) * (a + b)
weighted-positive a b X Y Z l w h k =
    le_of_mul-le-mul_left (le_trans (w a b)
    (le_trans (mul-le-mul_left (a + b) (add-le-add (mul-le-mul_left b h) (mul-le-mul_left a k))) (omega arith))) l

pub weighted-bound : (α β X Y Z : ℕ) → Weighted X Y Z → X ≤ α * α → Y ≤ β * β → Z ≤ (α + β) * (α + β)
weighted-bound zero β X Y Z w h k = rw (zero-add β) (weighted-zero (β * β) X Y Z w h k)
weighted-bound (suc α) zero X Y Z w h k = rw (add-zero (suc α)) (weighted-zero (suc α * suc α) Y X Z (λ a b. omega (arith, w b a)) k h)
weighted-bound (suc α) (suc β) X Y Z w h k = weighted-positive (suc α) (suc β) X Y Z (omega arith) w h k

-- for two vectors
weighted-vector : (n : ℕ) (x y : ℕ → ℤ) → Weighted (sumℕ n (λ i. sq (x i))) (sumℕ n (λ i. sq (y i))) (sumℕ n (λ i. sq (x i +ℤ y i)))
weighted-vector n x y = weighted-sum n (λ i. sq (x i)) (λ i. sq (y i)) (λ i. sq (x i +ℤ y i)) (λ i l. weighted-sq (x i) (y i))

pub minkowski : (n α β : ℕ) (x y : ℕ → ℤ) → sumℕ n (λ i. sq (x i)) ≤ α * α → sumℕ n (λ i. sq (y i)) ≤ β * β →
    sumℕ n (λ i. sq (x i +ℤ y i)) ≤ (α + β) * (α + β)
minkowski n α β x y = weighted-bound α β _ _ _ (weighted-vector n x y)

-- for two matrices of m rows and n columns
pub minkowski₂ : (m n α β : ℕ) (x y : ℕ → ℕ → ℤ) → sumℕ m (λ i. sumℕ n (λ j. sq (x i j))) ≤ α * α → sumℕ m (λ i. sumℕ n (λ j. sq (y i j))) ≤ β * β →
    sumℕ m (λ i. sumℕ n (λ j. sq (x i j +ℤ y i j))) ≤ (α + β) * (α + β)
minkowski₂ m n α β x y = weighted-bound α β _ _ _
    (weighted-sum m (λ i. sumℕ n (λ j. sq (x i j))) (λ i. sumℕ n (λ j. sq (y i j))) (λ i. sumℕ n (λ j. sq (x i j +ℤ y i j)))
    (λ i l. weighted-vector n (x i) (y i)))

pub cauchy₂ : (a b x y : ℤ) → sq (a *ℤ x +ℤ b *ℤ y) ≤ (sq a + sq b) * (sq x + sq y)
cauchy₂ a b x y = omega (arith, identity)
  where
    identity : sq (a *ℤ x +ℤ b *ℤ y) + sq (a *ℤ y -ℤ b *ℤ x) ≡ (sq a + sq b) * (sq x + sq y)
    identity = ringℕ (a ∷ b ∷ x ∷ y ∷ []) (search squares depth 20) tt

-- a sum of squares is at most the square of the sum of the sizes
pub squares-≤-sizes : (n : ℕ) (x : ℕ → ℤ) → sumℕ n (λ i. sq (x i)) ≤ sumℕ n (λ i. nat_abs (x i)) * sumℕ n (λ i. nat_abs (x i))
unfolding sumℕ sq
squares-≤-sizes zero x = omega arith
squares-≤-sizes (suc n) x = omega (arith, squares-≤-sizes n x)
