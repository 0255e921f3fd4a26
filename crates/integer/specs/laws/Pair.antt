-- Rotation of two entries of a vector, by c and s over N, and what it does to the sum of squares.
use Rattle.std.specs.Prelude.{◌≡◌, ◌≢◌, [], ◌∷◌, ℕ, ◌+◌, ◌*◌, ◌<◌, ℤ, pos, neg_ℤ, ◌+ℤ◌, ◌*ℤ◌}
use Rattle.std.proofs.Common.{sym, ◌∙◌, ap, mul-add, mul_assoc}
use Rattle.integer.specs.laws.Laws.{pos-injective}
use Rattle.integer.specs.laws.Ring.{linear-combination}
use Rattle.integer.specs.Square.{sq}
use Rattle.integer.specs.laws.Square.{sq-*ℤ, sq_pos, squares}
use Rattle.integer.specs.Sum.{sumℕ}
use Rattle.integer.specs.laws.Sum.{sumℕ-cong, sumℕ-*, sumℕ-exchange, sumℕ-but-two-≡}

pub rotate-two : (N : ℕ) (c s x y : ℤ) → c *ℤ c +ℤ s *ℤ s ≡ pos (N * N) → sq (c *ℤ x +ℤ s *ℤ y) + sq (neg_ℤ s *ℤ x +ℤ c *ℤ y) ≡ N * N * (sq x + sq y)
rotate-two N c s x y e = pos-injective (sq (c *ℤ x +ℤ s *ℤ y) + sq (neg_ℤ s *ℤ x +ℤ c *ℤ y)) (N * N * (sq x + sq y))
    (linear-combination (c ∷ s ∷ x ∷ y ∷ pos N ∷ []) (x *ℤ x +ℤ y *ℤ y) e (search squares depth 20) tt)

-- the places p, q and the numbers c, s, N of a rotation of n entries
pub record Rotation (n p q N : ℕ) (c s : ℤ) : Type 0 where
  pub ordered : p < q
  pub within : q < n
  pub norm : c *ℤ c +ℤ s *ℤ s ≡ pos (N * N)

-- y is x rotated: N times x but at p and q
pub record Rotated (n p q N : ℕ) (c s : ℤ) (x y : ℕ → ℤ) : Type 0 where
  pub first : y p ≡ c *ℤ x p +ℤ s *ℤ x q
  pub second : y q ≡ neg_ℤ s *ℤ x p +ℤ c *ℤ x q
  pub other : (i : ℕ) → i < n → i ≢ p → i ≢ q → y i ≡ pos N *ℤ x i

pub rotated-squares : {n p q N : ℕ} {c s : ℤ} (x y : ℕ → ℤ) → Rotation n p q N c s → Rotated n p q N c s x y →
    sumℕ n (λ i. sq (y i)) ≡ N * N * sumℕ n (λ i. sq (x i))
rotated-squares {n} {p} {q} {N} {c} {s} x y r h =
    sumℕ-but-two-≡ n p q (λ i. sq (y i)) (λ i. N * N * sq (x i)) r.ordered r.within elsewhere pair ∙ sumℕ-* n (N * N) (λ i. sq (x i))
  where
    elsewhere : (i : ℕ) → i < n → i ≢ p → i ≢ q → sq (y i) ≡ N * N * sq (x i)
    elsewhere i l d e = rw (h.other i l d e, sq-*ℤ (pos N) (x i), sq_pos N)

    pair : sq (y p) + sq (y q) ≡ N * N * sq (x p) + N * N * sq (x q)
    pair = rw (h.first, h.second) (rotate-two N c s (x p) (x q) r.norm ∙ mul-add (N * N) (sq (x p)) (sq (x q)))

-- each of the m rows of Y is the row of X rotated
pub rotated-rows : {n p q N : ℕ} {c s : ℤ} (m : ℕ) (X Y : ℕ → ℕ → ℤ) → Rotation n p q N c s → ((i : ℕ) → i < m → Rotated n p q N c s (X i) (Y i)) →
    sumℕ m (λ i. sumℕ n (λ j. sq (Y i j))) ≡ N * N * sumℕ m (λ i. sumℕ n (λ j. sq (X i j)))
rotated-rows {n} {p} {q} {N} m X Y r h = sumℕ-cong m (λ i l. rotated-squares (X i) (Y i) r (h i l)) ∙ sumℕ-* m (N * N) (λ i. sumℕ n (λ j. sq (X i j)))

-- each of the m columns of Y is the column of X rotated
pub rotated-columns : {n p q N : ℕ} {c s : ℤ} (m : ℕ) (X Y : ℕ → ℕ → ℤ) → Rotation n p q N c s →
    ((j : ℕ) → j < m → Rotated n p q N c s (λ i. X i j) (λ i. Y i j)) →
    sumℕ n (λ i. sumℕ m (λ j. sq (Y i j))) ≡ N * N * sumℕ n (λ i. sumℕ m (λ j. sq (X i j)))
rotated-columns {n} {p} {q} {N} m X Y r h =
    sumℕ-exchange n m (λ i j. sq (Y i j)) ∙ rotated-rows m (λ j i. X i j) (λ j i. Y i j) r h
    ∙ ap (λ x. N * N * x) (sumℕ-exchange m n (λ j i. sq (X i j)))

-- H is R X, by columns, and Y is H Rᵀ, by rows
pub rotated-matrix : {n p q N : ℕ} {c s : ℤ} (X H Y : ℕ → ℕ → ℤ) → Rotation n p q N c s →
    ((j : ℕ) → j < n → Rotated n p q N c s (λ i. X i j) (λ i. H i j)) → ((i : ℕ) → i < n → Rotated n p q N c s (H i) (Y i)) →
    sumℕ n (λ i. sumℕ n (λ j. sq (Y i j))) ≡ N * N * (N * N) * sumℕ n (λ i. sumℕ n (λ j. sq (X i j)))
rotated-matrix {n} {p} {q} {N} X H Y r h k = rotated-rows n H Y r k ∙ ap (λ x. N * N * x) (rotated-columns n X H r h)
    ∙ sym (mul_assoc (N * N) (N * N) _)
