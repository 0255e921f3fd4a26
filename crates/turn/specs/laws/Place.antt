-- The places of an index beside a pair p < q: at p, at q, or at neither; and what at_pair gives at each.
use Rattle.std.specs.Prelude.{◌≡◌, ◌≢◌, cond, ℕ, ◌<◌, eqb}
use Rattle.std.proofs.Common.{sym, subst, ◌∙◌, arith}
use Rattle.std.proofs.Math.Decide.{ℕ_discrete}
use Rattle.integer.specs.Sum.{sumℕ}
use Rattle.integer.specs.laws.Sum.{sumℕ-but-two, sumℕ-const, update_same, update_other}
use Rattle.turn.specs.Turn.{at_pair}

pub data Place (p q : ℕ) : ℕ → Type 0 where
  at_p : Place p q p
  at-q : Place p q q
  neither : {i : ℕ} → i ≢ p → i ≢ q → Place p q i

pub place : (p q i : ℕ) → Place p q i
place p q i = cases (ℕ_discrete i p) (ℕ_discrete i q)
  where
    cases : Dec (i ≡ p) → Dec (i ≡ q) → Place p q i
    cases (yes d) e = subst (Place p q) (sym d) at_p
    cases (no d) (yes e) = subst (Place p q) (sym e) at-q
    cases (no d) (no e) = neither d e

pub at_pair-p : {A : Type 0} (p q : ℕ) (x y z : A) → at_pair p q p x y z ≡ x
unfolding at_pair
at_pair-p p q x y z = update_same (λ k. cond (eqb k q) y z) p x

pub at_pair-neither : {A : Type 0} (p q k : ℕ) (x y z : A) → k ≢ p → k ≢ q → at_pair p q k x y z ≡ z
unfolding at_pair
at_pair-neither p q k x y z d e = update_other (λ k. cond (eqb k q) y z) p x k d ∙ update_other (λ k. z) q y k e

pub at_pair-q : {A : Type 0} (p q : ℕ) (x y z : A) → p < q → at_pair p q q x y z ≡ y
unfolding at_pair
at_pair-q p q x y z l = update_other (λ k. cond (eqb k q) y z) p x q (omega arith) ∙ update_same (λ k. z) q y

pub ruleset places = (at_pair-p, at_pair-q, at_pair-neither)

-- 1 at p and at q
unfoldable pub in_pair : ℕ → ℕ → ℕ → ℕ
in_pair p q i = at_pair p q i 1 1 0

pub sum-in_pair : (n p q : ℕ) → p < q → q < n → sumℕ n (in_pair p q) ≡ 2
unfolding in_pair
sum-in_pair n p q l k = omega (
  arith,
  rw (at_pair-p, at_pair-q) at (sumℕ-but-two n p q (in_pair p q) (λ i. 0) l k (λ i o. at_pair-neither p q i 1 1 0)),
  sumℕ-const n 0,
)
