-- Laws of lists of eight, and of 8 by 8 arrays of arrays.
use Rattle.std.specs.Prelude.{◌≡◌, refl, cond, List, [], ◌∷◌, ℕ, zero, suc, ◌+◌, ◌<◌, ltb, ℤ, pos, length, get_or, set}
use Rattle.std.proofs.Common.{sym, ◌∙◌, arith, lit<, length-set, ext_get_or, get_or-set_other, get_or-set_same, lt-ltb}
use Rattle.std.proofs.Math.Decide.{dec_lt, ℕ_discrete}
use Rattle.std.proofs.Math.ListN.{get_or-eq_default}
use Rattle.integer.specs.laws.Sum.{update, update_other, update_same}
use Rattle.integer.specs.laws.Tests.{next-test}
use Rattle.turn.specs.Shape.{Shaped}
use Rattle.turn.specs.Turn.{at, eight, square}
use Rattle.turn.specs.inner.Eight.{front}

beyond : (i : ℕ) → suc (suc (suc (suc (suc (suc (suc (suc i))))))) < 8 → ⊥
beyond i h = omega arith

pub get_d-eight : {A : Type 0} (f : ℕ → A) (i : ℕ) (d : A) → i < 8 → get_or (eight f) i d ≡ f i
unfolding eight
get_d-eight f zero d h = refl
get_d-eight f (suc zero) d h = refl
get_d-eight f (suc (suc zero)) d h = refl
get_d-eight f (suc (suc (suc zero))) d h = refl
get_d-eight f (suc (suc (suc (suc zero)))) d h = refl
get_d-eight f (suc (suc (suc (suc (suc zero))))) d h = refl
get_d-eight f (suc (suc (suc (suc (suc (suc zero)))))) d h = refl
get_d-eight f (suc (suc (suc (suc (suc (suc (suc zero))))))) d h = refl
get_d-eight f (suc (suc (suc (suc (suc (suc (suc (suc i)))))))) d h = absurd (beyond i h)

pub length-eight : {A : Type 0} (f : ℕ → A) → length (eight f) ≡ 8
unfolding eight
length-eight f = refl

pub eight-cong : {A : Type 0} {f g : ℕ → A} → ((i : ℕ) → i < 8 → f i ≡ g i) → eight f ≡ eight g
unfolding eight
eight-cong h k =
    h 0 (lit< tt) k ∷ h 1 (lit< tt) k ∷ h 2 (lit< tt) k ∷ h 3 (lit< tt) k ∷ h 4 (lit< tt) k ∷ h 5 (lit< tt) k ∷ h 6 (lit< tt) k ∷ h 7 (lit< tt) k ∷ []

pub eight-of : {A : Type 0} (l : List A) (d : A) → length l ≡ 8 → l ≡ eight (λ i. get_or l i d)
eight-of l d h =
    ext_get_or d l (eight (λ i. get_or l i d)) (h ∙ sym (length-eight (λ i. get_or l i d)))
    (λ i k. sym (get_d-eight (λ i. get_or l i d) i d (rw h at k)))

pub set-eight : {A : Type 0} (f : ℕ → A) (p : ℕ) (x : A) → p < 8 → set (eight f) p x ≡ eight (update f p x)
set-eight f p x h =
    eight-of (set (eight f) p x) x (simp (length-set, length-eight)) ∙ eight-cong (λ i k. by i k (ℕ_discrete i p))
  where
    by : (i : ℕ) → i < 8 → Dec (i ≡ p) → get_or (set (eight f) p x) i x ≡ update f p x i
    by i k (yes e) = rw e (get_or-set_same (eight f) p x x (rw length-eight h) ∙ sym (update_same f p x))
    by i k (no d) = get_or-set_other (eight f) p i x x d ∙ get_d-eight f i x k ∙ sym (update_other f p x i d)

pub front-more : {A : Type 0} (f : ℕ → A) (z : A) (i : ℕ) (x : A) → i < 8 → x ≡ f i → set (front f z i) i x ≡ front f z (i + 1)
front-more f z i x h e = set-eight (λ k. cond (ltb k i) (f k) z) i x h ∙ eight-cong (λ k _. by k (ℕ_discrete k i))
  where
    by : (k : ℕ) → Dec (k ≡ i) → update (λ k. cond (ltb k i) (f k) z) i x k ≡ cond (ltb k (i + 1)) (f k) z
    by k (yes d) = rw (d, update_same (λ k. cond (ltb k i) (f k) z) i x, lt-ltb i (i + 1) (omega arith)) e
    by k (no d) = update_other (λ k. cond (ltb k i) (f k) z) i x k d ∙ rw (next-test i k d)

pub at-eight : (f : ℕ → ℕ → ℤ) (i j : ℕ) → i < 8 → j < 8 → at (square f) i j ≡ f i j
unfolding at
at-eight f i j h k = rw (get_d-eight (λ i. eight (f i)) i [] h) (get_d-eight (f i) j (pos 0) k)

pub at-outside : (f : ℕ → ℕ → ℤ) (i j : ℕ) → (i < 8 → j < 8 → ⊥) → at (square f) i j ≡ pos 0
unfolding at
at-outside f i j h = by (dec_lt i 8) (dec_lt j 8)
  where
    by : Dec (i < 8) → Dec (j < 8) → at (square f) i j ≡ pos 0
    by (yes a) (yes b) = absurd (h a b)
    by (yes a) (no b) =
        rw (get_d-eight (λ i. eight (f i)) i [] a) (get_or-eq_default (eight (f i)) (pos 0) (rw length-eight (omega (arith, b))))
    by (no a) b =
        rw (get_or-eq_default (eight (λ i. eight (f i))) [] {n = i} (rw length-eight (omega (arith, a))))

pub square-cong : {f g : ℕ → ℕ → ℤ} → ((i j : ℕ) → i < 8 → j < 8 → f i j ≡ g i j) → square f ≡ square g
square-cong h = eight-cong (λ i k. eight-cong (λ j l. h i j k l))

pub square-of : (a : List (List ℤ)) → Shaped a → a ≡ square (at a)
unfolding at
square-of a s = eight-of a [] s.tall ∙ eight-cong (λ i h. eight-of (get_or a i []) (pos 0) (s.wide i h))

pub shaped-square : (f : ℕ → ℕ → ℤ) → Shaped (square f)
shaped-square f =
    record {
      tall = length-eight (λ i. eight (f i));
      wide = λ i h. rw (get_d-eight (λ i. eight (f i)) i [] h) (length-eight (f i));
    }
