-- Laws of this subject: Square matrices as functions of two indices: product, transpose, and the sum of the squares of the entries.
use Rattle.std.specs.Prelude.{◌≡◌, refl, Bool, true, false, cond, ◌≢◌, ℕ, ◌+◌, ◌*◌, ◌≤◌, ◌<◌, eqb, ℤ, pos, neg_ℤ, nat_abs, ◌+ℤ◌, ◌-ℤ◌, ◌*ℤ◌}
use Rattle.std.proofs.Common.{sym, ◌∙◌, ap, ap₂, arith}
use Rattle.std.proofs.Math.Decide.{ℕ_discrete}
use Rattle.std.proofs.Math.IntN.{*ℤ_comm, *ℤ-zero, zero-*ℤ, +ℤ_idl, +ℤ_idr}
use Rattle.integer.specs.laws.Laws.{*ℤ-assoc, negℤ-*ℤ}
use Rattle.integer.specs.Square.{sq}
use Rattle.integer.specs.laws.Square.{sq_pos, sq-*ℤ, sq-≤}
use Rattle.integer.specs.Sum.{sum, sumℕ}
use Rattle.integer.specs.laws.Sum.{sum-cong, sum-*, sum-zero, sum-exchange, sum-delta, sum-but-two, sumℕ-cong, sumℕ-*}
use Rattle.integer.specs.laws.Sum.{sumℕ-but-one, sumℕ-const, sumℕ-≤, term-≤-sumℕ, update_same, update_other}
use Rattle.integer.specs.Dot.{dot}
use Rattle.integer.specs.laws.Dot.{dot-cong, dot-comm, dot-+-left, dot-*-left, dot-+-right, dot-*-right}
use Rattle.integer.specs.laws.Minkowski.{minkowski₂}
use Rattle.integer.specs.Matrix.{Matrix, product, transpose, conjugate, diagonal, squares, Same, Symmetric}

-- products
pub product-cong : (n : ℕ) {X X' Y Y' : Matrix} → Same n X X' → Same n Y Y' → Same n (product n X Y) (product n X' Y')
unfolding product
product-cong n h e i j k l = dot-cong n (λ m o. h i m k o) (λ m o. e m j o l)

pub product-transpose : (n : ℕ) (X Y : Matrix) → transpose (product n X Y) ≡ product n (transpose Y) (transpose X)
unfolding product
product-transpose n X Y = λ t i j. dot-comm n (X j) (λ k. Y k i) t

pub product-assoc : (n : ℕ) (X Y Z : Matrix) → product n (product n X Y) Z ≡ product n X (product n Y Z)
unfolding product dot
product-assoc n X Y Z = λ t i j. entry i j t
  where
    entry : (i j : ℕ) → sum n (λ k. product n X Y i k *ℤ Z k j) ≡ sum n (λ m. X i m *ℤ product n Y Z m j)
    entry i j =
        sum-cong n (λ k l. *ℤ_comm (product n X Y i k) (Z k j) ∙ sym (sum-* n (Z k j) (λ m. X i m *ℤ Y m k)))
        ∙ sum-exchange n n (λ k m. Z k j *ℤ (X i m *ℤ Y m k))
        ∙ sum-cong n (λ m l. sum-cong n (λ k o. *ℤ_comm (Z k j) (X i m *ℤ Y m k) ∙ *ℤ-assoc (X i m) (Y m k) (Z k j))
        ∙ sum-* n (X i m) (λ k. Y m k *ℤ Z k j))

pub product-+-left : (n : ℕ) (X Y Z : Matrix) → product n (λ i j. X i j +ℤ Y i j) Z ≡ (λ i j. product n X Z i j +ℤ product n Y Z i j)
unfolding product
product-+-left n X Y Z = λ t i j. dot-+-left n (X i) (Y i) (λ k. Z k j) t

pub product-+-right : (n : ℕ) (Z X Y : Matrix) → product n Z (λ i j. X i j +ℤ Y i j) ≡ (λ i j. product n Z X i j +ℤ product n Z Y i j)
unfolding product
product-+-right n Z X Y = λ t i j. dot-+-right n (Z i) (λ k. X k j) (λ k. Y k j) t

pub product-*-left : (n : ℕ) (k : ℤ) (X Z : Matrix) → product n (λ i j. k *ℤ X i j) Z ≡ (λ i j. k *ℤ product n X Z i j)
unfolding product
product-*-left n k X Z = λ t i j. dot-*-left n k (X i) (λ m. Z m j) t

pub product-*-right : (n : ℕ) (k : ℤ) (Z X : Matrix) → product n Z (λ i j. k *ℤ X i j) ≡ (λ i j. k *ℤ product n Z X i j)
unfolding product
product-*-right n k Z X = λ t i j. dot-*-right n k (Z i) (λ m. X m j) t

-- what is additive and homogeneous passes to differences of multiples
difference : (f : Matrix → Matrix) → ((X Y : Matrix) → f (λ i j. X i j +ℤ Y i j) ≡ (λ i j. f X i j +ℤ f Y i j)) →
    ((k : ℤ) (X : Matrix) → f (λ i j. k *ℤ X i j) ≡ (λ i j. k *ℤ f X i j)) →
    (x y : ℤ) (X Y : Matrix) → f (λ i j. x *ℤ X i j -ℤ y *ℤ Y i j) ≡ (λ i j. x *ℤ f X i j -ℤ y *ℤ f Y i j)
difference f additive homogeneous x y X Y =
    ap f (λ t i j. x *ℤ X i j +ℤ sym (negℤ-*ℤ y (Y i j)) t) ∙ additive (λ i j. x *ℤ X i j) (λ i j. neg_ℤ y *ℤ Y i j) ∙
    (λ t i j. homogeneous x X t i j +ℤ (homogeneous (neg_ℤ y) Y ∙ (λ t i j. negℤ-*ℤ y (f Y i j) t)) t i j)

pub product-difference : (n : ℕ) (x y : ℤ) (Z X Y : Matrix) →
    product n Z (λ i j. x *ℤ X i j -ℤ y *ℤ Y i j) ≡ (λ i j. x *ℤ product n Z X i j -ℤ y *ℤ product n Z Y i j)
product-difference n x y Z = difference (product n Z) (product-+-right n Z) (λ k. product-*-right n k Z) x y

-- R X Rᵀ
pub conjugate-cong : (n : ℕ) {R S X Y : Matrix} → Same n R S → Same n X Y → Same n (conjugate n R X) (conjugate n S Y)
unfolding conjugate
conjugate-cong n e h = product-cong n (product-cong n e h) (λ i j k l. e j i l k)

pub conjugate-product : (n : ℕ) (R S X : Matrix) → conjugate n (product n R S) X ≡ conjugate n R (conjugate n S X)
unfolding conjugate
conjugate-product n R S X =
    ap₂ (product n) (product-assoc n R S X) (product-transpose n R S)
    ∙ sym (product-assoc n (product n R (product n S X)) (transpose S) (transpose R))
    ∙ ap (λ Y. product n Y (transpose R)) (product-assoc n R (product n S X) (transpose S))

pub conjugate-transpose : (n : ℕ) (R X : Matrix) → transpose (conjugate n R X) ≡ conjugate n R (transpose X)
unfolding conjugate
conjugate-transpose n R X = product-transpose n (product n R X) (transpose R) ∙ ap (product n R) (product-transpose n R X)
    ∙ sym (product-assoc n R (transpose X) (transpose R))

pub conjugate-symmetric : (n : ℕ) (R X : Matrix) → Symmetric n X → Symmetric n (conjugate n R X)
conjugate-symmetric n R X h i j o m = conjugate-cong n (λ i j o m. refl) h i j o m ∙ sym (λ t. conjugate-transpose n R X t i j)

pub conjugate-+ : (n : ℕ) (R X Y : Matrix) → conjugate n R (λ i j. X i j +ℤ Y i j) ≡ (λ i j. conjugate n R X i j +ℤ conjugate n R Y i j)
unfolding conjugate
conjugate-+ n R X Y = ap (λ Z. product n Z (transpose R)) (product-+-right n R X Y) ∙ product-+-left n (product n R X) (product n R Y) (transpose R)

pub conjugate-* : (n : ℕ) (k : ℤ) (R X : Matrix) → conjugate n R (λ i j. k *ℤ X i j) ≡ (λ i j. k *ℤ conjugate n R X i j)
unfolding conjugate
conjugate-* n k R X = ap (λ Z. product n Z (transpose R)) (product-*-right n k R X) ∙ product-*-left n k (product n R X) (transpose R)

pub conjugate-difference : (n : ℕ) (x y : ℤ) (R X Y : Matrix) →
    conjugate n R (λ i j. x *ℤ X i j -ℤ y *ℤ Y i j) ≡ (λ i j. x *ℤ conjugate n R X i j -ℤ y *ℤ conjugate n R Y i j)
conjugate-difference n x y R = difference (conjugate n R) (conjugate-+ n R) (λ k. conjugate-* n k R) x y

-- the products of the rows of R P with one another
pub conjugate-rows : (n : ℕ) (R P : Matrix) → product n (product n R P) (transpose (product n R P)) ≡ conjugate n R (product n P (transpose P))
unfolding conjugate
conjugate-rows n R P =
    ap (product n (product n R P)) (product-transpose n R P) ∙ sym (product-assoc n (product n R P) (transpose P) (transpose R))
    ∙ ap (λ X. product n X (transpose R)) (product-assoc n R P (transpose P))

-- the diagonal
pub diagonal-same : (k : ℤ) (i : ℕ) → diagonal k i i ≡ k
unfolding diagonal
diagonal-same k i = update_same (λ j. pos 0) i k

pub diagonal-other : (k : ℤ) (i j : ℕ) → i ≢ j → diagonal k i j ≡ pos 0
unfolding diagonal
diagonal-other k i j = update_other (λ j. pos 0) j k i

pub diagonal-transpose : (k : ℤ) (i j : ℕ) → diagonal k j i ≡ diagonal k i j
diagonal-transpose k i j = cases (ℕ_discrete i j)
  where
    cases : Dec (i ≡ j) → diagonal k j i ≡ diagonal k i j
    cases (yes e) = rw e
    cases (no e) = diagonal-other k j i (λ d. e (sym d)) ∙ sym (diagonal-other k i j e)

pub diagonal-* : (m k : ℤ) (i j : ℕ) → m *ℤ diagonal k i j ≡ diagonal (m *ℤ k) i j
unfolding diagonal
diagonal-* m k i j = cases (eqb i j)
  where
    cases : (b : Bool) → m *ℤ cond b k (pos 0) ≡ cond b (m *ℤ k) (pos 0)
    cases true = refl
    cases false = *ℤ-zero m

pub dot-diagonal : (n : ℕ) (k : ℤ) (x : ℕ → ℤ) (i : ℕ) → i < n → dot n (diagonal k i) x ≡ k *ℤ x i
unfolding dot
dot-diagonal n k x i l = sum-delta n i (λ j. diagonal k i j *ℤ x j) l
    (λ j o d. ap (λ z. z *ℤ x j) (diagonal-other k i j (λ e. d (sym e))) ∙ zero-*ℤ (x j)) ∙ ap (λ z. z *ℤ x i) (diagonal-same k i)

pub diagonal-product : (n : ℕ) (k : ℤ) (X : Matrix) (i j : ℕ) → i < n → product n (diagonal k) X i j ≡ k *ℤ X i j
unfolding product
diagonal-product n k X i j = dot-diagonal n k (λ m. X m j) i

pub product-diagonal : (n : ℕ) (k : ℤ) (X : Matrix) (i j : ℕ) → j < n → product n X (transpose (diagonal k)) i j ≡ k *ℤ X i j
unfolding product
product-diagonal n k X i j l = dot-comm n (X i) (diagonal k j) ∙ dot-diagonal n k (X i) j l

pub conjugate-diagonal : (n : ℕ) (k : ℤ) (R : Matrix) (i j : ℕ) → conjugate n R (diagonal k) i j ≡ k *ℤ product n R (transpose R) i j
unfolding conjugate product
conjugate-diagonal n k R i j =
    dot-cong n (λ m l. dot-comm n (R i) (λ o. diagonal k o m) ∙ dot-cong n (λ o b. diagonal-transpose k m o) (λ o b. refl)
    ∙ dot-diagonal n k (R i) m l) (λ m l. refl) ∙ dot-*-left n k (R i) (R j)

-- a vector that is 0 but at p and q, times another
pub dot-pair : (n p q : ℕ) (x y : ℕ → ℤ) → p < q → q < n → ((i : ℕ) → i < n → i ≢ p → i ≢ q → x i ≡ pos 0) → dot n x y ≡ x p *ℤ y p +ℤ x q *ℤ y q
unfolding dot
dot-pair n p q x y l k h =
    sym (+ℤ_idr (dot n x y)) ∙ sum-but-two n p q (λ i. x i *ℤ y i) (λ i. pos 0) l k (λ i o d e. ap (λ z. z *ℤ y i) (h i o d e) ∙ zero-*ℤ (y i))
    ∙ ap (λ z. z +ℤ (x p *ℤ y p +ℤ x q *ℤ y q)) (sum-zero n) ∙ +ℤ_idl (x p *ℤ y p +ℤ x q *ℤ y q)

-- squares
pub squares-cong : (n : ℕ) {X Y : Matrix} → Same n X Y → squares n X ≡ squares n Y
unfolding squares
squares-cong n h = sumℕ-cong n (λ i l. sumℕ-cong n (λ j k. ap sq (h i j l k)))

pub squares-* : (n : ℕ) (k : ℤ) (X : Matrix) → squares n (λ i j. k *ℤ X i j) ≡ sq k * squares n X
unfolding squares
squares-* n k X = sumℕ-cong n (λ i l. sumℕ-cong n (λ j o. sq-*ℤ k (X i j)) ∙ sumℕ-* n (sq k) (λ j. sq (X i j)))
    ∙ sumℕ-* n (sq k) (λ i. sumℕ n (λ j. sq (X i j)))

-- Minkowski's inequality, of two matrices
pub squares-+ : (n α β : ℕ) (X Y : Matrix) → squares n X ≤ α * α → squares n Y ≤ β * β → squares n (λ i j. X i j +ℤ Y i j) ≤ (α + β) * (α + β)
unfolding squares
squares-+ n = minkowski₂ n n

-- one row, and one entry
pub row-≤-squares : (n : ℕ) (X : Matrix) (i : ℕ) → i < n → sumℕ n (λ j. sq (X i j)) ≤ squares n X
unfolding squares
row-≤-squares n X i = term-≤-sumℕ n i (λ i. sumℕ n (λ j. sq (X i j)))

-- entries of size at most k
pub squares-≤ : (n k : ℕ) (X : Matrix) → ((i j : ℕ) → i < n → j < n → nat_abs (X i j) ≤ k) → squares n X ≤ n * k * (n * k)
unfolding squares
squares-≤ n k X h = omega (arith, sumℕ-≤ n {g = λ i. n * (k * k)} rows, sumℕ-const n (n * (k * k)))
  where
    rows : (i : ℕ) → i < n → sumℕ n (λ j. sq (X i j)) ≤ n * (k * k)
    rows i l = omega (arith, sumℕ-≤ n {f = λ j. sq (X i j)} {g = λ j. k * k} (λ j o. sq-≤ (X i j) k (h i j l o)), sumℕ-const n (k * k))

-- a column of the diagonal
pub diagonal-squares : (n : ℕ) (k : ℤ) (j : ℕ) → j < n → sumℕ n (λ i. sq (diagonal k i j)) ≡ sq k
diagonal-squares n k j l = omega (arith, sumℕ-but-one n j (λ i. sq (diagonal k i j)) (λ i. 0) l elsewhere, sumℕ-const n 0, ap sq (diagonal-same k j))
  where
    elsewhere : (i : ℕ) → i < n → i ≢ j → sq (diagonal k i j) ≡ 0
    elsewhere i o d = ap sq (diagonal-other k i j d) ∙ sq_pos 0
