-- Laws of this subject: The square of an integer, as a natural number.
use Rattle.std.specs.Prelude.{◌≡◌, refl, List, [], ◌∷◌, ℕ, suc, ◌+◌, ◌*◌, ◌≤◌, ℤ, pos, negsuc, neg_ℤ, nat_abs, ◌+ℤ◌, ◌-ℤ◌, ◌*ℤ◌}
use Rattle.std.proofs.Common.{sym, ◌∙◌, mul-le-mul, arith}
use Rattle.std.proofs.Math.Decide.{dec_le}
use Rattle.integer.specs.laws.Ring.{Poly, Reading, value, mul, product_value, reading, ringℕ}
use Rattle.integer.specs.Square.{sq}

pub pos-sq : (z : ℤ) → pos (sq z) ≡ z *ℤ z
unfolding sq
pos-sq (pos n) = refl
pos-sq (negsuc n) = refl

-- `ringℕ ρ (search squares depth 20) tt` reads `sq z` as z × z: it proves equations in ℕ between sums and products of squares.
pub square-value : (ρ : List ℤ) (p : Poly) {z : ℤ} → value ρ p ≡ z → value ρ (mul p p) ≡ pos (sq z)
square-value ρ p {z} h = product_value ρ p p h h ∙ sym (pos-sq z)

abbrev pub read-sq : {z : ℤ} {ρ : List ℤ} → Reading ρ z → Reading ρ (pos (sq z))
read-sq {z} {ρ} r = record { poly = mul r.poly r.poly; is = square-value ρ r.poly r.is }

pub ruleset squares = (reading, read-sq)

pub sq_pos : (n : ℕ) → sq (pos n) ≡ n * n
unfolding sq
sq_pos n = refl

pub sq-*ℤ : (a b : ℤ) → sq (a *ℤ b) ≡ sq a * sq b
sq-*ℤ a b = ringℕ (a ∷ b ∷ []) (search squares depth 20) tt

pub sq-negℤ : (z : ℤ) → sq (neg_ℤ z) ≡ sq z
sq-negℤ z = ringℕ (z ∷ []) (search squares depth 20) tt

pub sq-+ℤ : (x y : ℤ) → sq (x +ℤ y) ≤ 2 * sq x + 2 * sq y
sq-+ℤ x y = omega (arith, parallelogram)
  where
    parallelogram : sq (x +ℤ y) + sq (x -ℤ y) ≡ 2 * sq x + 2 * sq y
    parallelogram = ringℕ (x ∷ y ∷ []) (search squares depth 20) tt

-- squares and order
pub le-of-squares : (m n : ℕ) → m * m ≤ n * n → m ≤ n
le-of-squares m n h = elim (dec_le m n) [ yes g ↦ g | no g ↦ absurd (beyond (omega arith)) ]
  where
    beyond : suc n ≤ m → ⊥
    beyond g = omega (arith, mul-le-mul g g)

pub sq-≤ : (z : ℤ) (n : ℕ) → nat_abs z ≤ n → sq z ≤ n * n
unfolding sq
sq-≤ z n h = mul-le-mul h h

pub nat_abs-≤ : (z : ℤ) (n : ℕ) → sq z ≤ n * n → nat_abs z ≤ n
unfolding sq
nat_abs-≤ z n h = le-of-squares (nat_abs z) n h
