-- Laws of this subject: The scalar product of two vectors, bilinear.
use Rattle.std.specs.Prelude.{◌≡◌, refl, ℕ, ◌<◌, ℤ, pos, neg_ℤ, ◌+ℤ◌, ◌-ℤ◌, ◌*ℤ◌}
use Rattle.std.proofs.Common.{sym, ◌∙◌, ap, ap₂}
use Rattle.std.proofs.Math.IntN.{*ℤ_comm}
use Rattle.integer.specs.laws.Laws.{+ℤ-*ℤ, *ℤ-assoc, negℤ-*ℤ}
use Rattle.integer.specs.laws.Sum.{sum-cong, sum-+, sum-*}
use Rattle.integer.specs.laws.Pair.{Rotated}
use Rattle.integer.specs.Dot.{dot}

pub dot-cong : (n : ℕ) {x x' y y' : ℕ → ℤ} → ((i : ℕ) → i < n → x i ≡ x' i) → ((i : ℕ) → i < n → y i ≡ y' i) → dot n x y ≡ dot n x' y'
unfolding dot
dot-cong n h k = sum-cong n (λ i l. ap₂ ◌*ℤ◌ (h i l) (k i l))

pub dot-comm : (n : ℕ) (x y : ℕ → ℤ) → dot n x y ≡ dot n y x
unfolding dot
dot-comm n x y = sum-cong n (λ i l. *ℤ_comm (x i) (y i))

pub dot-+-left : (n : ℕ) (x y z : ℕ → ℤ) → dot n (λ i. x i +ℤ y i) z ≡ dot n x z +ℤ dot n y z
unfolding dot
dot-+-left n x y z = sum-cong n (λ i l. +ℤ-*ℤ (x i) (y i) (z i)) ∙ sum-+ n (λ i. x i *ℤ z i) (λ i. y i *ℤ z i)

pub dot-*-left : (n : ℕ) (k : ℤ) (x z : ℕ → ℤ) → dot n (λ i. k *ℤ x i) z ≡ k *ℤ dot n x z
unfolding dot
dot-*-left n k x z = sum-cong n (λ i l. *ℤ-assoc k (x i) (z i)) ∙ sum-* n k (λ i. x i *ℤ z i)

pub dot-+-right : (n : ℕ) (z x y : ℕ → ℤ) → dot n z (λ i. x i +ℤ y i) ≡ dot n z x +ℤ dot n z y
dot-+-right n z x y = dot-comm n z (λ i. x i +ℤ y i) ∙ dot-+-left n x y z ∙ ap₂ ◌+ℤ◌ (dot-comm n x z) (dot-comm n y z)

pub dot-*-right : (n : ℕ) (k : ℤ) (z x : ℕ → ℤ) → dot n z (λ i. k *ℤ x i) ≡ k *ℤ dot n z x
dot-*-right n k z x = dot-comm n z (λ i. k *ℤ x i) ∙ dot-*-left n k x z ∙ ap (λ y. k *ℤ y) (dot-comm n x z)

-- of a difference of multiples
pub dot-difference : (n : ℕ) (a b : ℤ) (x y z : ℕ → ℤ) → dot n (λ i. a *ℤ x i -ℤ b *ℤ y i) z ≡ a *ℤ dot n x z -ℤ b *ℤ dot n y z
dot-difference n a b x y z =
    dot-cong n (λ i l. ap (λ w. a *ℤ x i +ℤ w) (sym (negℤ-*ℤ b (y i)))) (λ i l. refl) ∙ dot-+-left n (λ i. a *ℤ x i) (λ i. neg_ℤ b *ℤ y i) z
    ∙ ap₂ ◌+ℤ◌ (dot-*-left n a x z) (dot-*-left n (neg_ℤ b) y z ∙ negℤ-*ℤ b (dot n y z))

-- the products of u with the rows of a matrix whose columns are rotated are rotated too
pub dot-rotated : {n p q N : ℕ} {c s : ℤ} (m : ℕ) (u : ℕ → ℤ) (X Y : ℕ → ℕ → ℤ) → ((k : ℕ) → k < m → Rotated n p q N c s (λ i. X i k) (λ i. Y i k)) →
    Rotated n p q N c s (λ i. dot m u (X i)) (λ i. dot m u (Y i))
dot-rotated {n} {p} {q} {N} {c} {s} m u X Y h = record {
  first = row p (λ k. c *ℤ X p k +ℤ s *ℤ X q k) (λ k l. (h k l).first) ∙ two c s;
  second = row q (λ k. neg_ℤ s *ℤ X p k +ℤ c *ℤ X q k) (λ k l. (h k l).second) ∙ two (neg_ℤ s) c;
  other = λ i l d e. row i (λ k. pos N *ℤ X i k) (λ k j. (h k j).other i l d e) ∙ dot-*-right m (pos N) u (X i);
}
  where
    row : (i : ℕ) (y : ℕ → ℤ) → ((k : ℕ) → k < m → Y i k ≡ y k) → dot m u (Y i) ≡ dot m u y
    row i y e = dot-cong m (λ k l. refl) e

    two : (a b : ℤ) → dot m u (λ k. a *ℤ X p k +ℤ b *ℤ X q k) ≡ a *ℤ dot m u (X p) +ℤ b *ℤ dot m u (X q)
    two a b = dot-+-right m u (λ k. a *ℤ X p k) (λ k. b *ℤ X q k) ∙ ap₂ ◌+ℤ◌ (dot-*-right m a u (X p)) (dot-*-right m b u (X q))
