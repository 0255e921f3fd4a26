-- Laws of this subject: Finite sums of functions on ℕ, with values in ℤ and in ℕ.
use Rattle.std.specs.Prelude.{◌≡◌, refl, ◌≢◌, [], ◌∷◌, Bool, true, false, cond, ℕ, zero, suc, ◌+◌, ◌*◌, ◌≤◌, ◌<◌, T, eqb, ℤ, pos, nat_abs, ◌+ℤ◌, ◌*ℤ◌}
use Rattle.std.proofs.Common.{sym, ◌∙◌, ap, ap₂, add-le-add, le_refl, arith, eqb→eq}
use Rattle.std.proofs.Math.Decide.{ℕ_discrete}
use Rattle.std.proofs.Math.Dec.{eqb_refl}
use Rattle.std.proofs.Math.IntN.{*ℤ-zero, +ℤ_idl, +ℤ_idr}
use Rattle.integer.specs.laws.Laws.{+ℤ-interchange, *ℤ-+ℤ, nat_abs-+ℤ, pos-injective}
use Rattle.integer.specs.laws.Ring.{linear-combination, reading}
use Rattle.integer.specs.Sum.{sum, sumℕ}

pub pos-sumℕ : (n : ℕ) (f : ℕ → ℕ) → pos (sumℕ n f) ≡ sum n (λ i. pos (f i))
unfolding sum sumℕ
pos-sumℕ zero f = refl
pos-sumℕ (suc n) f = ap (λ x. x +ℤ pos (f n)) (pos-sumℕ n f)

-- linearity
pub sum-cong : (n : ℕ) {f g : ℕ → ℤ} → ((i : ℕ) → i < n → f i ≡ g i) → sum n f ≡ sum n g
unfolding sum
sum-cong zero h = refl
sum-cong (suc n) h = ap₂ ◌+ℤ◌ (sum-cong n (λ i l. h i (omega arith))) (h n (omega arith))

pub sum-+ : (n : ℕ) (f g : ℕ → ℤ) → sum n (λ i. f i +ℤ g i) ≡ sum n f +ℤ sum n g
unfolding sum
sum-+ zero f g = refl
sum-+ (suc n) f g = ap (λ x. x +ℤ (f n +ℤ g n)) (sum-+ n f g) ∙ +ℤ-interchange (sum n f) (sum n g) (f n) (g n)

pub sum-* : (n : ℕ) (k : ℤ) (f : ℕ → ℤ) → sum n (λ i. k *ℤ f i) ≡ k *ℤ sum n f
unfolding sum
sum-* zero k f = sym (*ℤ-zero k)
sum-* (suc n) k f = ap (λ x. x +ℤ k *ℤ f n) (sum-* n k f) ∙ sym (*ℤ-+ℤ k (sum n f) (f n))

pub sum-zero : (n : ℕ) → sum n (λ i. pos zero) ≡ pos zero
unfolding sum
sum-zero zero = refl
sum-zero (suc n) = ap (λ x. x +ℤ pos zero) (sum-zero n)

pub sum-exchange : (m n : ℕ) (f : ℕ → ℕ → ℤ) → sum m (λ i. sum n (f i)) ≡ sum n (λ j. sum m (λ i. f i j))
unfolding sum
sum-exchange zero n f = sym (sum-zero n)
sum-exchange (suc m) n f = ap (λ x. x +ℤ sum n (f m)) (sum-exchange m n f) ∙ sym (sum-+ n (λ j. sum m (λ i. f i j)) (f m))

-- f but z at p
abbrev pub update {ℓ} : {A : Type ℓ} → (ℕ → A) → ℕ → A → ℕ → A
update f p z i = cond (eqb i p) z (f i)

pub update_same {ℓ} : {A : Type ℓ} (f : ℕ → A) (p : ℕ) (z : A) → update f p z p ≡ z
update_same f p z = chosen (eqb p p) (eqb_refl p)
  where
    chosen : (b : Bool) → T b → cond b z (f p) ≡ z
    chosen true t = refl
    chosen false t = absurd t

pub update_other {ℓ} : {A : Type ℓ} (f : ℕ → A) (p : ℕ) (z : A) (i : ℕ) → i ≢ p → update f p z i ≡ f i
update_other f p z i h = chosen (eqb i p) (λ t. h (eqb→eq i p t))
  where
    chosen : (b : Bool) → (T b → ⊥) → cond b z (f i) ≡ f i
    chosen true t = absurd (t tt)
    chosen false t = refl

-- two functions that agree but at p: their sums differ by what they differ there
pub sum-but-one : (n p : ℕ) (f g : ℕ → ℤ) → p < n → ((i : ℕ) → i < n → i ≢ p → f i ≡ g i) → sum n f +ℤ g p ≡ sum n g +ℤ f p
unfolding sum
sum-but-one zero p f g l h = absurd (omega arith)
sum-but-one (suc n) p f g l h = cases (ℕ_discrete p n) (λ l'. sum-but-one n p f g l' (λ i k. h i (omega arith)))
  where
    cases : Dec (p ≡ n) → (p < n → sum n f +ℤ g p ≡ sum n g +ℤ f p) → (sum n f +ℤ f n) +ℤ g p ≡ (sum n g +ℤ g n) +ℤ f p
    cases (yes e) ih =
        rw e (linear-combination (sum n f ∷ sum n g ∷ f n ∷ g n ∷ []) (pos 1) (sum-cong n {f = f} {g = g} (λ i k. h i (omega arith) (omega arith)))
        (search reading depth 20) tt)
    cases (no e) ih =
        rw (h n (omega arith) (λ e'. e (sym e')))
        (linear-combination (sum n f ∷ sum n g ∷ f p ∷ g p ∷ g n ∷ []) (pos 1) (ih (omega arith)) (search reading depth 20) tt)

-- a function that is 0 but at p
pub sum-delta : (n p : ℕ) (f : ℕ → ℤ) → p < n → ((i : ℕ) → i < n → i ≢ p → f i ≡ pos zero) → sum n f ≡ f p
sum-delta n p f l h = sym (+ℤ_idr (sum n f)) ∙ sum-but-one n p f (λ i. pos zero) l h ∙ ap (λ x. x +ℤ f p) (sum-zero n) ∙ +ℤ_idl (f p)

-- two functions that agree but at p and q
pub sum-but-two : (n p q : ℕ) (f g : ℕ → ℤ) → p < q → q < n → ((i : ℕ) → i < n → i ≢ p → i ≢ q → f i ≡ g i) →
    sum n f +ℤ (g p +ℤ g q) ≡ sum n g +ℤ (f p +ℤ f q)
sum-but-two n p q f g l k h = linear-combination (sum n f ∷ sum n g ∷ sum n m ∷ f p ∷ f q ∷ g p ∷ g q ∷ []) (pos 1) (ap₂ ◌+ℤ◌ first second)
    (search reading depth 20) tt
  where
    m : ℕ → ℤ
    m = update f p (g p)

    agree : (i : ℕ) → i < n → i ≢ q → Dec (i ≡ p) → m i ≡ g i
    agree i j e (yes d) = rw d (update_same f p (g p))
    agree i j e (no d) = update_other f p (g p) i d ∙ h i j d e

    first : sum n f +ℤ g p ≡ sum n m +ℤ f p
    first = rw (update_same f p (g p)) at (sum-but-one n p f m (omega arith) (λ i j e. sym (update_other f p (g p) i e)))

    second : sum n m +ℤ g q ≡ sum n g +ℤ f q
    second = rw (update_other f p (g p) q (omega arith)) at (sum-but-one n q m g k (λ i j e. agree i j e (ℕ_discrete i p)))

pub nat_abs-sum : (n : ℕ) (f : ℕ → ℤ) → nat_abs (sum n f) ≤ sumℕ n (λ i. nat_abs (f i))
unfolding sum sumℕ
nat_abs-sum zero f = le_refl zero
nat_abs-sum (suc n) f = omega (arith, nat_abs-+ℤ (sum n f) (f n), nat_abs-sum n f)

-- The same laws in ℕ, carried over by pos-sumℕ.
pub sumℕ-cong : (n : ℕ) {f g : ℕ → ℕ} → ((i : ℕ) → i < n → f i ≡ g i) → sumℕ n f ≡ sumℕ n g
sumℕ-cong n {f} {g} h = pos-injective (sumℕ n f) (sumℕ n g) (pos-sumℕ n f ∙ sum-cong n (λ i l. ap pos (h i l)) ∙ sym (pos-sumℕ n g))

pub sumℕ-+ : (n : ℕ) (f g : ℕ → ℕ) → sumℕ n (λ i. f i + g i) ≡ sumℕ n f + sumℕ n g
sumℕ-+ n f g = pos-injective (sumℕ n (λ i. f i + g i)) (sumℕ n f + sumℕ n g)
    (pos-sumℕ n (λ i. f i + g i) ∙ sum-+ n (λ i. pos (f i)) (λ i. pos (g i)) ∙ sym (ap₂ ◌+ℤ◌ (pos-sumℕ n f) (pos-sumℕ n g)))

pub sumℕ-* : (n k : ℕ) (f : ℕ → ℕ) → sumℕ n (λ i. k * f i) ≡ k * sumℕ n f
sumℕ-* n k f = pos-injective (sumℕ n (λ i. k * f i)) (k * sumℕ n f)
    (pos-sumℕ n (λ i. k * f i) ∙ sum-* n (pos k) (λ i. pos (f i)) ∙ sym (ap (λ x. pos k *ℤ x) (pos-sumℕ n f)))

pub sumℕ-exchange : (m n : ℕ) (f : ℕ → ℕ → ℕ) → sumℕ m (λ i. sumℕ n (f i)) ≡ sumℕ n (λ j. sumℕ m (λ i. f i j))
sumℕ-exchange m n f = pos-injective (sumℕ m (λ i. sumℕ n (f i))) (sumℕ n (λ j. sumℕ m (λ i. f i j)))
    (twice m n f ∙ sum-exchange m n (λ i j. pos (f i j)) ∙ sym (twice n m (λ j i. f i j)))
  where
    twice : (m n : ℕ) (f : ℕ → ℕ → ℕ) → pos (sumℕ m (λ i. sumℕ n (f i))) ≡ sum m (λ i. sum n (λ j. pos (f i j)))
    twice m n f = pos-sumℕ m (λ i. sumℕ n (f i)) ∙ sum-cong m (λ i l. pos-sumℕ n (f i))

pub sumℕ-but-one : (n p : ℕ) (f g : ℕ → ℕ) → p < n → ((i : ℕ) → i < n → i ≢ p → f i ≡ g i) → sumℕ n f + g p ≡ sumℕ n g + f p
sumℕ-but-one n p f g l h = pos-injective (sumℕ n f + g p) (sumℕ n g + f p)
    (ap (λ x. x +ℤ pos (g p)) (pos-sumℕ n f) ∙ sum-but-one n p (λ i. pos (f i)) (λ i. pos (g i)) l (λ i k e. ap pos (h i k e))
    ∙ sym (ap (λ x. x +ℤ pos (f p)) (pos-sumℕ n g)))

pub sumℕ-but-two : (n p q : ℕ) (f g : ℕ → ℕ) → p < q → q < n → ((i : ℕ) → i < n → i ≢ p → i ≢ q → f i ≡ g i) →
    sumℕ n f + (g p + g q) ≡ sumℕ n g + (f p + f q)
sumℕ-but-two n p q f g l k h = pos-injective (sumℕ n f + (g p + g q)) (sumℕ n g + (f p + f q))
    (ap (λ x. x +ℤ pos (g p + g q)) (pos-sumℕ n f) ∙ sum-but-two n p q (λ i. pos (f i)) (λ i. pos (g i)) l k (λ i j d e. ap pos (h i j d e))
    ∙ sym (ap (λ x. x +ℤ pos (f p + f q)) (pos-sumℕ n g)))

pub sumℕ-but-two-≡ : (n p q : ℕ) (f g : ℕ → ℕ) → p < q → q < n → ((i : ℕ) → i < n → i ≢ p → i ≢ q → f i ≡ g i) → f p + f q ≡ g p + g q →
    sumℕ n f ≡ sumℕ n g
sumℕ-but-two-≡ n p q f g l k h e = omega (arith, sumℕ-but-two n p q f g l k h)

-- order in ℕ
pub term-≤-sumℕ : (n p : ℕ) (f : ℕ → ℕ) → p < n → f p ≤ sumℕ n f
term-≤-sumℕ n p f l = omega (arith, sumℕ-but-one n p f (update f p zero) l (λ i k e. sym (update_other f p zero i e)), update_same f p zero)

pub sumℕ-const : (n k : ℕ) → sumℕ n (λ i. k) ≡ n * k
unfolding sumℕ
sumℕ-const zero k = omega arith
sumℕ-const (suc n) k = omega (arith, sumℕ-const n k)

pub sumℕ-≤ : (n : ℕ) {f g : ℕ → ℕ} → ((i : ℕ) → i < n → f i ≤ g i) → sumℕ n f ≤ sumℕ n g
unfolding sumℕ
sumℕ-≤ zero h = le_refl zero
sumℕ-≤ (suc n) h = add-le-add (sumℕ-≤ n (λ i l. h i (omega arith))) (h n (omega arith))
