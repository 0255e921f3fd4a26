-- Laws of the ring ℤ, of nat_abs and of order that lib.IntN and lib.Signed do not have.
use Rattle.std.specs.Prelude.{◌≡◌, refl, Bool, true, false, cond, ℕ, zero, suc, ◌+◌, ◌*◌, ◌-◌, ◌≤◌, T, ltb, ℤ, pos, negsuc, neg_ℤ, nat_abs, ◌+ℤ◌}
use Rattle.std.specs.Prelude.{◌-ℤ◌, ◌*ℤ◌, ◌<ℤ◌, ◌≤ℤ◌}
use Rattle.std.proofs.Common.{sym, ◌∙◌, ap, ap₂, suc-ne-zero, arith, ltb-true, ltb-false, le→leb, ltb→lt}
use Rattle.std.proofs.Math.IntN.{suc_ℤ, pred_ℤ, one, sub_ℕ, +ℤ_assoc, +ℤ_comm, +ℤ_idl, neg_ℤ-neg_ℤ, neg_ℤ-+ℤ, zero-*ℤ, suc_ℤ-+ℤ, pred_ℤ-+ℤ}
use Rattle.std.proofs.Math.IntN.{suc_ℤ-*ℤ, pred_ℤ-*ℤ, *ℤ-one, *ℤ_comm, -ℤ-+ℤ_cancel}
use Rattle.std.specs.Int.Signed.{le_z, lt_z}

-- sums
pub +ℤ-left-comm : (a b c : ℤ) → a +ℤ (b +ℤ c) ≡ b +ℤ (a +ℤ c)
+ℤ-left-comm a b c = sym (+ℤ_assoc a b c) ∙ ap (λ x. x +ℤ c) (+ℤ_comm a b) ∙ +ℤ_assoc b a c

pub +ℤ-interchange : (a b c d : ℤ) → (a +ℤ b) +ℤ (c +ℤ d) ≡ (a +ℤ c) +ℤ (b +ℤ d)
+ℤ-interchange a b c d = +ℤ_assoc a b (c +ℤ d) ∙ ap (λ x. a +ℤ x) (+ℤ-left-comm b c d) ∙ sym (+ℤ_assoc a c (b +ℤ d))

pub eq-of-difference : (a b : ℤ) → a -ℤ b ≡ pos zero → a ≡ b
eq-of-difference a b h = sym (-ℤ-+ℤ_cancel a b) ∙ ap (λ x. x +ℤ b) h ∙ +ℤ_idl b

-- products
induction : (P : ℤ → Type 0) → P (pos zero) → ((m : ℤ) → P m → P (suc_ℤ m)) → ((m : ℤ) → P m → P (pred_ℤ m)) → (k : ℤ) → P k
induction P z u d (pos zero) = z
induction P z u d (pos (suc n)) = u (pos n) (induction P z u d (pos n))
induction P z u d (negsuc zero) = d (pos zero) z
induction P z u d (negsuc (suc n)) = d (negsuc n) (induction P z u d (negsuc n))

pub +ℤ-*ℤ : (a b c : ℤ) → (a +ℤ b) *ℤ c ≡ a *ℤ c +ℤ b *ℤ c
+ℤ-*ℤ a b c = induction (λ m. (m +ℤ b) *ℤ c ≡ m *ℤ c +ℤ b *ℤ c)
    (rw (+ℤ_idl b, zero-*ℤ c) (sym (+ℤ_idl (b *ℤ c))))
    (λ m h. rw (suc_ℤ-+ℤ m b, suc_ℤ-*ℤ (m +ℤ b) c, suc_ℤ-*ℤ m c) (step m c h))
    (λ m h. rw (pred_ℤ-+ℤ m b, pred_ℤ-*ℤ (m +ℤ b) c, pred_ℤ-*ℤ m c) (step m (neg_ℤ c) h)) a
  where
    step : (m d : ℤ) → (m +ℤ b) *ℤ c ≡ m *ℤ c +ℤ b *ℤ c → (m +ℤ b) *ℤ c +ℤ d ≡ (m *ℤ c +ℤ d) +ℤ b *ℤ c
    step m d h = ap (λ x. x +ℤ d) h ∙ +ℤ_assoc (m *ℤ c) (b *ℤ c) d ∙ ap (λ x. m *ℤ c +ℤ x) (+ℤ_comm (b *ℤ c) d) ∙ sym (+ℤ_assoc (m *ℤ c) d (b *ℤ c))

pub *ℤ-+ℤ : (a b c : ℤ) → a *ℤ (b +ℤ c) ≡ a *ℤ b +ℤ a *ℤ c
*ℤ-+ℤ a b c = *ℤ_comm a (b +ℤ c) ∙ +ℤ-*ℤ b c a ∙ ap₂ ◌+ℤ◌ (*ℤ_comm b a) (*ℤ_comm c a)

pub negℤ-*ℤ : (a b : ℤ) → neg_ℤ a *ℤ b ≡ neg_ℤ (a *ℤ b)
negℤ-*ℤ (pos zero) b = zero-*ℤ b ∙ ap neg_ℤ (sym (zero-*ℤ b))
negℤ-*ℤ (pos (suc a)) (pos b) = refl
negℤ-*ℤ (pos (suc a)) (negsuc b) = sym (neg_ℤ-neg_ℤ (pos (suc a * suc b)))
negℤ-*ℤ (negsuc a) (pos b) = sym (neg_ℤ-neg_ℤ (pos (suc a * b)))
negℤ-*ℤ (negsuc a) (negsuc b) = refl

pub *ℤ-negℤ : (a b : ℤ) → a *ℤ neg_ℤ b ≡ neg_ℤ (a *ℤ b)
*ℤ-negℤ a b = *ℤ_comm a (neg_ℤ b) ∙ negℤ-*ℤ b a ∙ ap neg_ℤ (*ℤ_comm b a)

pub *ℤ-assoc : (a b c : ℤ) → (a *ℤ b) *ℤ c ≡ a *ℤ (b *ℤ c)
*ℤ-assoc a b c = induction (λ m. (m *ℤ b) *ℤ c ≡ m *ℤ (b *ℤ c))
    (rw (zero-*ℤ b, zero-*ℤ (b *ℤ c)) (zero-*ℤ c))
    (λ m h. rw (suc_ℤ-*ℤ m b, suc_ℤ-*ℤ m (b *ℤ c), +ℤ-*ℤ (m *ℤ b) b c, h))
    (λ m h. rw (pred_ℤ-*ℤ m b, pred_ℤ-*ℤ m (b *ℤ c), +ℤ-*ℤ (m *ℤ b) (neg_ℤ b) c, negℤ-*ℤ b c, h)) a

pub one-*ℤ : (z : ℤ) → pos 1 *ℤ z ≡ z
unfolding one
one-*ℤ z = *ℤ_comm (pos 1) z ∙ *ℤ-one z

pub *ℤ-interchange : (a b c d : ℤ) → (a *ℤ b) *ℤ (c *ℤ d) ≡ (a *ℤ c) *ℤ (b *ℤ d)
*ℤ-interchange a b c d = simp (*ℤ-assoc, left_comm)
  where
    left_comm : (x y z : ℤ) → x *ℤ (y *ℤ z) ≡ y *ℤ (x *ℤ z)
    left_comm x y z = sym (*ℤ-assoc x y z) ∙ ap (λ w. w *ℤ z) (*ℤ_comm x y) ∙ *ℤ-assoc y x z

-- size
pub pos-injective : (m n : ℕ) → pos m ≡ pos n → m ≡ n
pos-injective m n h = ap nat_abs h

pub nat_abs-zero : (z : ℤ) → nat_abs z ≡ zero → z ≡ pos zero
nat_abs-zero (pos n) h = ap pos h
nat_abs-zero (negsuc n) h = absurd (suc-ne-zero n h)

pub nat_abs-neg_ℤ : (z : ℤ) → nat_abs (neg_ℤ z) ≡ nat_abs z
nat_abs-neg_ℤ (pos zero) = refl
nat_abs-neg_ℤ (pos (suc n)) = refl
nat_abs-neg_ℤ (negsuc n) = refl

pub nat_abs-*ℤ : (a b : ℤ) → nat_abs (a *ℤ b) ≡ nat_abs a * nat_abs b
nat_abs-*ℤ (pos a) (pos b) = refl
nat_abs-*ℤ (pos a) (negsuc b) = nat_abs-neg_ℤ (pos (a * suc b))
nat_abs-*ℤ (negsuc a) (pos b) = nat_abs-neg_ℤ (pos (suc a * b))
nat_abs-*ℤ (negsuc a) (negsuc b) = refl

either : (c : Bool) (x y k : ℕ) → suc x ≤ k → y ≤ k → nat_abs (cond c (negsuc x) (pos y)) ≤ k
either true x y k h g = h
either false x y k h g = g

pub nat_abs-+ℤ : (a b : ℤ) → nat_abs (a +ℤ b) ≤ nat_abs a + nat_abs b
nat_abs-+ℤ (pos a) (pos b) = omega arith
nat_abs-+ℤ (pos a) (negsuc b) = either (ltb a (suc b)) (suc b - suc a) (a - suc b) (a + suc b) (omega arith) (omega arith)
nat_abs-+ℤ (negsuc a) (pos b) = either (ltb b (suc a)) (suc a - suc b) (b - suc a) (suc a + b) (omega arith) (omega arith)
nat_abs-+ℤ (negsuc a) (negsuc b) = omega arith

-- the size of a difference and of a sum of naturals
pub nat_abs--ℤ : (a b : ℕ) → nat_abs (pos a -ℤ pos b) ≡ (a - b) + (b - a)
nat_abs--ℤ a zero = omega arith
nat_abs--ℤ a (suc b) = by_order (ltb a (suc b)) refl
  where
    by_order : (t : Bool) → ltb a (suc b) ≡ t → nat_abs (sub_ℕ a (suc b)) ≡ (a - suc b) + (suc b - a)
    by_order true e = rw e (omega (arith, ltb-true a (suc b) e))
    by_order false e = rw e (omega (arith, ltb-false a (suc b) e))

pub nat_abs-opposite : (a b : ℕ) → nat_abs (neg_ℤ (pos a) -ℤ pos b) ≡ a + b
nat_abs-opposite a b = rw (← neg_ℤ-+ℤ) (nat_abs-neg_ℤ (pos a +ℤ pos b))

-- order
pub weaker : {a b : ℤ} → a <ℤ b → a ≤ℤ b
weaker {a} {b} h = record { le = by a b h.lt }
  where
    by : (a b : ℤ) → T (lt_z a b) → T (le_z a b)
    by (pos a) (pos b) h = le→leb a b (omega (arith, ltb→lt a b h))
    by (pos a) (negsuc b) h = absurd h
    by (negsuc a) (pos b) h = tt
    by (negsuc a) (negsuc b) h = le→leb b a (omega (arith, ltb→lt b a h))
