-- `ring`: an equation of ℤ that holds by the ring laws, proved by computing the difference of its sides as a polynomial.
-- Use: `ring (a ∷ x i ∷ pos n ∷ []) (search reading depth 20) tt`, where the list holds what stands for a variable, any terms of ℤ, 8 or so of them.
-- Read are `+ℤ`, `-ℤ`, `*ℤ`, `neg_ℤ`, literals, and `pos` of `+`, `*` and literals of ℕ. An equation of more than some 40 operations wants `depth
-- 20 fits 9999`.
-- `ringℕ` proves an equation of ℕ, read under `pos`; `linear-combination` one that follows from another by multiplying it and adding.
use Rattle.std.specs.Prelude.{◌≡◌, refl, Bool, true, false, ◌&&◌, List, [], ◌∷◌, ℕ, zero, suc, ◌+◌, ◌*◌, T, eqb, ℤ, pos, negsuc, neg_ℤ, nat_abs}
use Rattle.std.specs.Prelude.{◌+ℤ◌, ◌-ℤ◌, ◌*ℤ◌}
use Rattle.std.proofs.Common.{sym, ◌∙◌, ap, ap₂, add-zero, add-suc, eqb→eq}
use Rattle.std.proofs.Math.IntN.{one, pow, +ℤ_assoc, +ℤ_idl, +ℤ_idr, +ℤ-neg_ℤ_cancel, zero-*ℤ, *ℤ-zero, *ℤ-one}
use Rattle.std.proofs.Math.Facts.{and_yes}
use Rattle.integer.specs.laws.Laws.{+ℤ-left-comm, +ℤ-*ℤ, *ℤ-+ℤ, one-*ℤ, *ℤ-assoc, *ℤ-interchange, negℤ-*ℤ, eq-of-difference, nat_abs-zero}
use Rattle.integer.specs.laws.Laws.{pos-injective}

-- A monomial is the list of its variables' exponents, in the order of the variables; a polynomial lists its terms, no two with one monomial.
pub data Poly : Type 0 where
  nil : Poly
  term : ℤ → List ℕ → Poly → Poly

abbrev pub same : List ℕ → List ℕ → Bool
same [] [] = true
same [] (j ∷ k) = false
same (i ∷ m) [] = false
same (i ∷ m) (j ∷ k) = eqb i j && same m k

-- the monomials' product
abbrev pub exponents : List ℕ → List ℕ → List ℕ
exponents [] k = k
exponents (i ∷ m) [] = i ∷ m
exponents (i ∷ m) (j ∷ k) = (i + j) ∷ exponents m k

abbrev pub insert : ℤ → List ℕ → Poly → Poly
insert c m nil = term c m nil
insert c m (term d k p) = elim (same m k) [ true ↦ term (c +ℤ d) k p | false ↦ term d k (insert c m p) ]

abbrev pub add : Poly → Poly → Poly
add nil q = q
add (term c m p) q = insert c m (add p q)

-- the product with one term
abbrev pub scale : ℤ → List ℕ → Poly → Poly
scale c m nil = nil
scale c m (term d k p) = term (c *ℤ d) (exponents m k) (scale c m p)

abbrev pub mul : Poly → Poly → Poly
mul nil q = nil
mul (term c m p) q = add (scale c m q) (mul p q)

abbrev pub vanishes : Poly → Bool
vanishes nil = true
vanishes (term c m p) = eqb (nat_abs c) zero && vanishes p

-- values at a list of integers
abbrev head : List ℤ → ℤ
head [] = pos zero
head (x ∷ ρ) = x

abbrev tail : List ℤ → List ℤ
tail [] = []
tail (x ∷ ρ) = ρ

unfoldable pub monomial : List ℤ → List ℕ → ℤ
monomial ρ [] = one
monomial ρ (i ∷ m) = pow (head ρ) i *ℤ monomial (tail ρ) m

unfoldable pub value : List ℤ → Poly → ℤ
value ρ nil = pos zero
value ρ (term c m p) = c *ℤ monomial ρ m +ℤ value ρ p

pow-+ : (x : ℤ) (i j : ℕ) → pow x (i + j) ≡ pow x i *ℤ pow x j
unfolding pow
pow-+ x i zero = rw (add-zero i) (sym (*ℤ-one (pow x i)))
pow-+ x i (suc j) = rw (add-suc i j, pow-+ x i j) (*ℤ-assoc (pow x i) (pow x j) x)

exponents-value : (ρ : List ℤ) (m k : List ℕ) → monomial ρ (exponents m k) ≡ monomial ρ m *ℤ monomial ρ k
unfolding monomial one
exponents-value ρ [] k = sym (one-*ℤ (monomial ρ k))
exponents-value ρ (i ∷ m) [] = sym (*ℤ-one (pow (head ρ) i *ℤ monomial (tail ρ) m))
exponents-value ρ (i ∷ m) (j ∷ k) =
    rw (pow-+ (head ρ) i j, exponents-value (tail ρ) m k)
    (*ℤ-interchange (pow (head ρ) i) (pow (head ρ) j) (monomial (tail ρ) m) (monomial (tail ρ) k))

same→eq : (m k : List ℕ) → T (same m k) → m ≡ k
same→eq [] [] t = refl
same→eq [] (j ∷ k) t = absurd t
same→eq (i ∷ m) [] t = absurd t
same→eq (i ∷ m) (j ∷ k) t = let b = and_yes (eqb i j) (same m k) t in ap₂ ◌∷◌ (eqb→eq i j b.0) (same→eq m k b.1)

insert-value : (ρ : List ℤ) (c : ℤ) (m : List ℕ) (p : Poly) → value ρ (insert c m p) ≡ c *ℤ monomial ρ m +ℤ value ρ p
unfolding value
insert-value ρ c m nil = refl
insert-value ρ c m (term d k p) = cases (same m k) (same→eq m k) (insert-value ρ c m p)
  where
    cases : (b : Bool) → (T b → m ≡ k) → value ρ (insert c m p) ≡ c *ℤ monomial ρ m +ℤ value ρ p →
        value ρ (elim b [ true ↦ term (c +ℤ d) k p | false ↦ term d k (insert c m p) ]) ≡ c *ℤ monomial ρ m +ℤ (d *ℤ monomial ρ k +ℤ value ρ p)
    cases true e ih = rw (e tt, +ℤ-*ℤ c d (monomial ρ k)) (+ℤ_assoc (c *ℤ monomial ρ k) (d *ℤ monomial ρ k) (value ρ p))
    cases false e ih = rw ih (+ℤ-left-comm (d *ℤ monomial ρ k) (c *ℤ monomial ρ m) (value ρ p))

add-value : (ρ : List ℤ) (p q : Poly) → value ρ (add p q) ≡ value ρ p +ℤ value ρ q
unfolding value
add-value ρ nil q = sym (+ℤ_idl (value ρ q))
add-value ρ (term c m p) q = insert-value ρ c m (add p q) ∙ ap (λ x. c *ℤ monomial ρ m +ℤ x) (add-value ρ p q)
    ∙ sym (+ℤ_assoc (c *ℤ monomial ρ m) (value ρ p) (value ρ q))

scale-value : (ρ : List ℤ) (c : ℤ) (m : List ℕ) (p : Poly) → value ρ (scale c m p) ≡ (c *ℤ monomial ρ m) *ℤ value ρ p
unfolding value
scale-value ρ c m nil = sym (*ℤ-zero (c *ℤ monomial ρ m))
scale-value ρ c m (term d k p) =
    rw (exponents-value ρ m k, scale-value ρ c m p, *ℤ-interchange c d (monomial ρ m) (monomial ρ k))
    (sym (*ℤ-+ℤ (c *ℤ monomial ρ m) (d *ℤ monomial ρ k) (value ρ p)))

mul-value : (ρ : List ℤ) (p q : Poly) → value ρ (mul p q) ≡ value ρ p *ℤ value ρ q
unfolding value
mul-value ρ nil q = sym (zero-*ℤ (value ρ q))
mul-value ρ (term c m p) q = add-value ρ (scale c m q) (mul p q) ∙ ap₂ ◌+ℤ◌ (scale-value ρ c m q) (mul-value ρ p q)
    ∙ sym (+ℤ-*ℤ (c *ℤ monomial ρ m) (value ρ p) (value ρ q))

vanishes-value : (ρ : List ℤ) (p : Poly) → T (vanishes p) → value ρ p ≡ pos zero
unfolding value
vanishes-value ρ nil t = refl
vanishes-value ρ (term c m p) t =
    let b = and_yes (eqb (nat_abs c) zero) (vanishes p) t in
    rw (nat_abs-zero c (eqb→eq (nat_abs c) zero b.0), vanishes-value ρ p b.1, zero-*ℤ (monomial ρ m))

-- Reading a term of ℤ: a polynomial whose value at ρ it is.
pub record Reading (ρ : List ℤ) (z : ℤ) : Type 0 where
  pub poly : Poly
  pub is : value ρ poly ≡ z

-- A variable's place in the list, as the monomial whose value it is.
pub record Place (ρ : List ℤ) (z : ℤ) : Type 0 where
  pub at : List ℕ
  pub is : monomial ρ at ≡ z

pub here-value : (z : ℤ) (ρ : List ℤ) → monomial (z ∷ ρ) (1 ∷ []) ≡ z
unfolding monomial pow one
here-value z ρ = *ℤ-one (one *ℤ z) ∙ one-*ℤ z

pub there-value : (w : ℤ) (ρ : List ℤ) (m : List ℕ) {z : ℤ} → monomial ρ m ≡ z → monomial (w ∷ ρ) (zero ∷ m) ≡ z
unfolding monomial pow one
there-value w ρ m h = one-*ℤ (monomial ρ m) ∙ h

pub variable-value : (ρ : List ℤ) (m : List ℕ) {z : ℤ} → monomial ρ m ≡ z → value ρ (term (pos 1) m nil) ≡ z
unfolding value one
variable-value ρ m h = +ℤ_idr (one *ℤ monomial ρ m) ∙ one-*ℤ (monomial ρ m) ∙ h

pub constant-value : (ρ : List ℤ) (c : ℤ) → value ρ (term c [] nil) ≡ c
unfolding value monomial
constant-value ρ c = +ℤ_idr (c *ℤ one) ∙ *ℤ-one c

pub sum-value : (ρ : List ℤ) (p q : Poly) {a b : ℤ} → value ρ p ≡ a → value ρ q ≡ b → value ρ (add p q) ≡ a +ℤ b
sum-value ρ p q g h = add-value ρ p q ∙ ap₂ ◌+ℤ◌ g h

pub product_value : (ρ : List ℤ) (p q : Poly) {a b : ℤ} → value ρ p ≡ a → value ρ q ≡ b → value ρ (mul p q) ≡ a *ℤ b
product_value ρ p q g h = mul-value ρ p q ∙ ap₂ ◌*ℤ◌ g h

pub negation-value : (ρ : List ℤ) (p : Poly) {a : ℤ} → value ρ p ≡ a → value ρ (scale (negsuc zero) [] p) ≡ neg_ℤ a
unfolding monomial one
negation-value ρ p {a} h = scale-value ρ (negsuc zero) [] p ∙ negℤ-*ℤ one (value ρ p) ∙ ap neg_ℤ (one-*ℤ (value ρ p) ∙ h)

abbrev there : {w z : ℤ} {ρ : List ℤ} → Place ρ z → Place (w ∷ ρ) z
there {w} {z} {ρ} r = record { at = zero ∷ r.at; is = there-value w ρ r.at r.is }

-- (Four places in one rule keep a search shallow.)
abbrev pub place-0 : {z : ℤ} {ρ : List ℤ} → Place (z ∷ ρ) z
place-0 {z} {ρ} = record { at = 1 ∷ []; is = here-value z ρ }

abbrev pub place-1 : {v z : ℤ} {ρ : List ℤ} → Place (v ∷ z ∷ ρ) z
place-1 = there place-0

abbrev pub place-2 : {u v z : ℤ} {ρ : List ℤ} → Place (u ∷ v ∷ z ∷ ρ) z
place-2 = there place-1

abbrev pub place-3 : {t u v z : ℤ} {ρ : List ℤ} → Place (t ∷ u ∷ v ∷ z ∷ ρ) z
place-3 = there place-2

abbrev pub place-4+ : {t u v w z : ℤ} {ρ : List ℤ} → Place ρ z → Place (t ∷ u ∷ v ∷ w ∷ ρ) z
place-4+ r = there (there (there (there r)))

abbrev pub read-variable : {z : ℤ} {ρ : List ℤ} → Place ρ z → Reading ρ z
read-variable {z} {ρ} r = record { poly = term (pos 1) r.at nil; is = variable-value ρ r.at r.is }

-- (The premise keeps the rule from numbers that are not literals.)
abbrev pub read_pos : {ρ : List ℤ} (n : ℕ) → eqb n n ≡ true → Reading ρ (pos n)
read_pos {ρ} n t = record { poly = term (pos n) [] nil; is = constant-value ρ (pos n) }

abbrev pub read-negsuc : {ρ : List ℤ} (n : ℕ) → eqb n n ≡ true → Reading ρ (negsuc n)
read-negsuc {ρ} n t = record { poly = term (negsuc n) [] nil; is = constant-value ρ (negsuc n) }

abbrev pub read-+ℤ : {a b : ℤ} {ρ : List ℤ} → Reading ρ a → Reading ρ b → Reading ρ (a +ℤ b)
read-+ℤ {a} {b} {ρ} r s = record { poly = add r.poly s.poly; is = sum-value ρ r.poly s.poly r.is s.is }

abbrev pub read-*ℤ : {a b : ℤ} {ρ : List ℤ} → Reading ρ a → Reading ρ b → Reading ρ (a *ℤ b)
read-*ℤ {a} {b} {ρ} r s = record { poly = mul r.poly s.poly; is = product_value ρ r.poly s.poly r.is s.is }

abbrev pub read-negℤ : {a : ℤ} {ρ : List ℤ} → Reading ρ a → Reading ρ (neg_ℤ a)
read-negℤ {a} {ρ} r = record { poly = scale (negsuc zero) [] r.poly; is = negation-value ρ r.poly r.is }

abbrev pub read-+ : {a b : ℕ} {ρ : List ℤ} → Reading ρ (pos a) → Reading ρ (pos b) → Reading ρ (pos (a + b))
read-+ r s = read-+ℤ r s

abbrev pub read-* : {a b : ℕ} {ρ : List ℤ} → Reading ρ (pos a) → Reading ρ (pos b) → Reading ρ (pos (a * b))
read-* r s = read-*ℤ r s

-- Both sides of an equation, as the polynomial of their difference.
pub record Difference (ρ : List ℤ) (a b : ℤ) : Type 0 where
  pub poly : Poly
  pub is : value ρ poly ≡ a -ℤ b

abbrev pub difference : {a b : ℤ} {ρ : List ℤ} → Reading ρ a → Reading ρ b → Difference ρ a b
difference r s = let d = read-+ℤ r (read-negℤ s) in record { poly = d.poly; is = d.is }

pub ruleset reading = (
  difference,
  read-+ℤ,
  read-*ℤ,
  read-negℤ,
  read-+,
  read-*,
  read_pos,
  read-negsuc,
  read-variable,
  place-0,
  place-1,
  place-2,
  place-3,
  place-4+,
)

pub ring : (ρ : List ℤ) {a b : ℤ} (d : Difference ρ a b) → T (vanishes d.poly) → a ≡ b
ring ρ {a} {b} d t = eq-of-difference a b (sym d.is ∙ vanishes-value ρ d.poly t)

pub ringℕ : (ρ : List ℤ) {a b : ℕ} (d : Difference ρ (pos a) (pos b)) → T (vanishes d.poly) → a ≡ b
ringℕ ρ {a} {b} d t = pos-injective a b (ring ρ d t)

-- for an equation l ≡ r at hand, where a − b is k times l − r by the ring laws
pub linear-combination : (ρ : List ℤ) {a b l r : ℤ} (k : ℤ) → l ≡ r → (d : Difference ρ (a +ℤ k *ℤ r) (b +ℤ k *ℤ l)) → T (vanishes d.poly) → a ≡ b
linear-combination ρ {a} {b} {l} {r} k e d t = sym (+ℤ-neg_ℤ_cancel a (k *ℤ r)) ∙ ap₂ (λ x y. x -ℤ k *ℤ y) (ring ρ d t) (sym e)
    ∙ +ℤ-neg_ℤ_cancel b (k *ℤ l)

-- an example
example : (a b : ℤ) → (a +ℤ b) *ℤ (a -ℤ b) ≡ a *ℤ a -ℤ b *ℤ b
example a b = ring (a ∷ b ∷ []) (search reading depth 20) tt
