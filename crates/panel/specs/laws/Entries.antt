-- Laws of the whole numbers from −b to b: which stands i places after −b, how many places after −b one stands, and that this keeps their order.
use Rattle.std.specs.Prelude.{◌≡◌, refl, Bool, true, false, ℕ, zero, suc, ◌+◌, ◌-◌, ◌*◌, ◌<◌, ◌≤◌, T, ltb, ℤ, pos, negsuc, nat_abs, ◌+ℤ◌, ◌-ℤ◌}
use Rattle.std.specs.Prelude.{◌<ℤ◌, ◌≤ℤ◌}
use Rattle.std.proofs.Common.{sym, ap, ◌∙◌, arith, le-ltb, ltb-true, ltb-false, lt→ltb}
use Rattle.std.proofs.Math.Decide.{dec_lt}
use Rattle.std.proofs.Math.IntN.{sub_ℕ, -ℤ-+ℤ_cancel, +ℤ-neg_ℤ_cancel}
use Rattle.std.specs.Int.Signed.{lt_z, clash_ℤ, ≤ℤ_refl}
use Rattle.integer.specs.laws.Laws.{nat_abs--ℤ, weaker}
use Rattle.panel.specs.Panels.{entry_at, width}
use Rattle.panel.specs.Position.{place_of_entry}

module _ (b : ℕ) where
  pub place-entry : (i : ℕ) → place_of_entry b (entry_at b i) ≡ i
  place-entry i = ap nat_abs (-ℤ-+ℤ_cancel (pos i) (pos b))

  pub entry-within : (i : ℕ) → i < width b → nat_abs (entry_at b i) ≤ b
  entry-within i h = omega (arith, nat_abs--ℤ i b)

-- z + b, where z is at most b in size
lifted : (b : ℕ) (z : ℤ) → nat_abs z ≤ b → (pos (nat_abs (z +ℤ pos b)) ≡ z +ℤ pos b) × (nat_abs (z +ℤ pos b) ≤ 2 * b)
lifted b (pos n) h = (refl, omega arith)
lifted b (negsuc n) h = let e = le-ltb b (suc n) h in (rw e, rw e (omega arith))

module _ (b : ℕ) where
  pub place-below : (z : ℤ) → nat_abs z ≤ b → place_of_entry b z < width b
  place-below z h = omega (arith, (lifted b z h).1)

  pub entry_place : (z : ℤ) → nat_abs z ≤ b → entry_at b (place_of_entry b z) ≡ z
  entry_place z h = ap (λ x. x -ℤ pos b) (lifted b z h).0 ∙ +ℤ-neg_ℤ_cancel z (pos b)

-- i − b is less than j − b
less : (b i j : ℕ) → i < j → (s t : Bool) → ltb i b ≡ s → ltb j b ≡ t → T (lt_z (sub_ℕ i b) (sub_ℕ j b))
less b i j h true true e f = rw (e, f) (lt→ltb (b - suc j) (b - suc i) (let l = ltb-true j b f in omega arith))
less b i j h true false e f = rw (e, f) tt
less b i j h false true e f = absurd (let l = ltb-false i b e in let k = ltb-true j b f in omega arith)
less b i j h false false e f = rw (e, f) (lt→ltb (i - b) (j - b) (let l = ltb-false i b e in omega arith))

pub entry-before : (b i j : ℕ) → i < j → entry_at b i <ℤ entry_at b j
entry-before zero i j h = record { lt = lt→ltb (i + 0) (j + 0) (omega arith) }
entry-before (suc b) i j h = record { lt = less (suc b) i j h (ltb i (suc b)) (ltb j (suc b)) refl refl }

-- the lesser of two numbers stands earlier
pub place-before : (b : ℕ) (x y : ℤ) → nat_abs x ≤ b → nat_abs y ≤ b → x <ℤ y → place_of_entry b x < place_of_entry b y
place-before b x y h k l = by (dec_lt (place_of_entry b x) (place_of_entry b y))
  where
    by : Dec (place_of_entry b x < place_of_entry b y) → place_of_entry b x < place_of_entry b y
    by (yes e) = e
    by (no e) = clash_ℤ l (not-less (dec_lt (place_of_entry b y) (place_of_entry b x)))
      where
        not-less : Dec (place_of_entry b y < place_of_entry b x) → y ≤ℤ x
        not-less (yes f) =
            let m = entry-before b (place_of_entry b y) (place_of_entry b x) f in
            weaker (rw (entry_place b y k, entry_place b x h) at m)
        not-less (no f) =
            let same : place_of_entry b y ≡ place_of_entry b x = omega arith in
            let e : y ≡ x = sym (entry_place b y k) ∙ ap (entry_at b) same ∙ entry_place b x h in
            rw e (≤ℤ_refl x)
