-- The laws of rnd: its size, its sign, and that it is the one whole number that document 01's sentence names.
use Rattle.std.specs.Prelude.{◌≡◌, refl, ℕ, zero, suc, ◌+◌, ◌-◌, ◌*◌, ◌/◌, ◌<◌, ◌≤◌, ℤ, pos, negsuc, neg_ℤ, nat_abs, ◌*ℤ◌, ◌-ℤ◌}
use Rattle.std.proofs.Common.{ap, sym, ◌∙◌, zero-le, suc-le-suc, div-lt_iff_lt-mul, div-mul-le_self, zero-add, mul-le-mul_left, arith}
use Rattle.std.proofs.Math.Nat.{lt-div-mul-add, div-eq_of_lt, div-eq_of_lt-le}
use Rattle.std.proofs.Math.Decide.{dec_lt}
use Rattle.std.proofs.Math.IntN.{neg_ℤ-neg_ℤ, neg_ℤ-+ℤ}
use Rattle.integer.specs.laws.Laws.{nat_abs-neg_ℤ, nat_abs--ℤ, nat_abs-opposite, *ℤ-negℤ}
use Rattle.rounding.specs.Rounding.{rnd}

-- |rnd(u/w)|
pub rnd-size : (u : ℤ) (w : ℕ) → nat_abs (rnd u w) ≡ (nat_abs u + w / 2) / w
unfolding rnd
rnd-size (pos u) w = refl
rnd-size (negsuc u) w = nat_abs-neg_ℤ (pos ((suc u + w / 2) / w))

pub rnd-bound : (u : ℤ) (w k : ℕ) → 0 < w → nat_abs u ≤ k * w → nat_abs (rnd u w) ≤ k
unfolding rnd
rnd-bound (pos u) w k h b = omega (arith, (div-lt_iff_lt-mul {k = w} {x = u + w / 2} {y = suc k} h).1 (omega arith))
rnd-bound (negsuc u) w k h b =
    rw (nat_abs-neg_ℤ (pos ((suc u + w / 2) / w))) (omega (arith, (div-lt_iff_lt-mul {k = w} {x = suc u + w / 2} {y = suc k} h).1 (omega arith)))

pub rnd-zero : (w : ℕ) → 0 < w → rnd (pos 0) w ≡ pos 0
unfolding rnd
rnd-zero w h = rw (zero-add, div-eq_of_lt {n = w / 2} {m = w} (omega arith))

pub rnd-neg : (u : ℤ) (w : ℕ) → 0 < w → rnd (neg_ℤ u) w ≡ neg_ℤ (rnd u w)
unfolding rnd
rnd-neg (pos zero) w h = nought ∙ sym (ap neg_ℤ nought)
  where
    nought : rnd (pos 0) w ≡ pos 0
    nought = rw (zero-add, div-eq_of_lt {n = w / 2} {m = w} (omega arith))
rnd-neg (pos (suc u)) w h = refl
rnd-neg (negsuc u) w h = sym (neg_ℤ-neg_ℤ _)

-- z is the whole number nearest to u/w; of two equally near ones the one that is further from zero
pub record Nearest (u : ℤ) (w : ℕ) (z : ℤ) : Type 0 where
  pub near : 2 * nat_abs (pos w *ℤ z -ℤ u) ≤ w
  pub half : 2 * nat_abs (pos w *ℤ z -ℤ u) ≡ w → nat_abs u ≤ w * nat_abs z

-- the sentence for u is the sentence for −u, of the numbers' negatives
mirrored : (u : ℤ) (w : ℕ) (z : ℤ) → Nearest u w z → Nearest (neg_ℤ u) w (neg_ℤ z)
mirrored u w z n =
    record { near = rw same n.near; half = λ e. rw (nat_abs-neg_ℤ u, nat_abs-neg_ℤ z) (n.half (rw same at e)) }
  where
    same : nat_abs (pos w *ℤ neg_ℤ z -ℤ neg_ℤ u) ≡ nat_abs (pos w *ℤ z -ℤ u)
    same = rw (*ℤ-negℤ (pos w) z, ← neg_ℤ-+ℤ) (nat_abs-neg_ℤ (pos w *ℤ z -ℤ u))

pub rnd-nearest : (u : ℤ) (w : ℕ) → 0 < w → Nearest u w (rnd u w)
unfolding rnd
rnd-nearest u w h = by_sign u
  where
    below : (u : ℕ) → (u + w / 2) / w * w ≤ u + w / 2
    below u = div-mul-le_self (u + w / 2) w

    above : (u : ℕ) → u + w / 2 < (u + w / 2) / w * w + w
    above u = lt-div-mul-add h

    positive : (u : ℕ) → Nearest (pos u) w (rnd (pos u) w)
    positive u = record { near = rw nat_abs--ℤ (omega (arith, below u, above u)); half = λ e. omega (arith, below u, above u, rw nat_abs--ℤ at e) }

    by_sign : (u : ℤ) → Nearest u w (rnd u w)
    by_sign (pos u) = positive u
    by_sign (negsuc u) = mirrored (pos (suc u)) w _ (positive (suc u))

pub nearest-unique : (u : ℤ) (w : ℕ) (z : ℤ) → 0 < w → Nearest u w z → z ≡ rnd u w
unfolding rnd
nearest-unique u w z h n = by_sign u z n
  where
    positive : (u : ℕ) (z : ℤ) → Nearest (pos u) w z → z ≡ rnd (pos u) w
    positive u (pos z) n = ap pos (sym (div-eq_of_lt-le w {m = u + w / 2} (omega (arith, near)) (above (dec_lt (u + w / 2) ((z + 1) * w)))))
      where
        near : 2 * ((w * z - u) + (u - w * z)) ≤ w
        near = rw nat_abs--ℤ at n.near

        half : 2 * ((w * z - u) + (u - w * z)) ≡ w → u ≤ w * z
        half e = n.half (rw nat_abs--ℤ e)

        above : Dec (u + w / 2 < (z + 1) * w) → u + w / 2 < (z + 1) * w
        above (yes p) = p
        above (no f) = let g : u ≤ w * z = half (omega (arith, f, near)) in omega (arith, f, near, g)
    positive u (negsuc z) n =
        absurd (no_room (w * suc z) (mul-le-mul_left w (suc-le-suc zero-le)) (rw nat_abs-opposite at n.near))
      where
        no_room : (a : ℕ) → w * 1 ≤ a → 2 * (a + u) ≤ w → ⊥
        no_room a b c = omega arith

    by_sign : (u : ℤ) (z : ℤ) → Nearest u w z → z ≡ rnd u w
    by_sign (pos u) z n = positive u z n
    by_sign (negsuc u) z n = sym (neg_ℤ-neg_ℤ z) ∙ ap neg_ℤ (positive (suc u) (neg_ℤ z) (mirrored (negsuc u) w z n))
