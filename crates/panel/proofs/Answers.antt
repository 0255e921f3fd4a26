-- The refusal of the text of a size, and the room that the text needs.
use mathlib.Core.Path.{◌≡◌, refl}
use mathlib.Core.Bool.{Bool, true, false, cond}
use Rattle.std.specs.Prelude.{Ok, Err}
use Rattle.refusal.specs.declared.Refusal.{Refusal}
use Rattle.refusal.specs.Refusal.{numbered}
use Prim.Native.Nat.{ℕ, ◌≤◌}
use native.Mathlib.Omega.{arith}
use lib.IntN.{ℤ, nat_abs}
use lib.ListN.{length}
use Rattle.panel.specs.Refusal.{most_size, size_refusal, size_within}
use Rattle.panel.specs.Text.{panels_text}
use Rattle.panel.specs.laws.Text.{text-few}
use Rattle.panel.proofs.Ranges.{in-range}
use Rattle.panel.proofs.Small.{count_small}

-- b as a natural, where it is a size
module _ (b : ℤ) where
  pub is-size : {size : ℕ} → Ok size ≡ cond (size_within b) (Ok (nat_abs b)) (Err (numbered 2)) → (size_refusal b ≡ 0) × (size ≡ nat_abs b)
  unfolding size_refusal
  is-size {size} = by (size_within b)
    where
      by : (t : Bool) → Ok size ≡ cond t (Ok (nat_abs b)) (Err (numbered 2)) → (◌≡◌ {A = ℕ} (cond t 0 2) 0) × (size ≡ nat_abs b)
      by true e = (refl, cc)
      by false e = absurd (let z : ◌≡◌ {A = ℕ} 0 1 = cc in omega arith)

  pub no-size : {refusal : Refusal} → Err refusal ≡ cond (size_within b) (Ok (nat_abs b)) (Err (numbered 2)) →
      (size_refusal b ≡ 2) × (refusal ≡ numbered 2)
  unfolding size_refusal
  no-size {refusal} = by (size_within b)
    where
      by : (t : Bool) → Err refusal ≡ cond t (Ok (nat_abs b)) (Err (numbered 2)) → (◌≡◌ {A = ℕ} (cond t 0 2) 2) × (refusal ≡ numbered 2)
      by true e = absurd (let z : ◌≡◌ {A = ℕ} 0 1 = cc in omega arith)
      by false e = (refl, cc)

-- the one refusal of a size
pub only-refusal : (b : ℤ) → (size_refusal b ≡ 0 → ⊥) → size_refusal b ≡ 2
unfolding size_refusal
only-refusal b = by (size_within b)
  where
    by : (t : Bool) → (◌≡◌ {A = ℕ} (cond t 0 2) 0 → ⊥) → ◌≡◌ {A = ℕ} (cond t 0 2) 2
    by true f = absurd (f refl)
    by false f = refl

-- no text has more than 112,999 bytes
pub text-room : (b : ℤ) → size_refusal b ≡ 0 → length (panels_text (nat_abs b)) ≤ 112_999
unfolding size_refusal
text-room b e = by (size_within b) refl
  where
    by : (t : Bool) → size_within b ≡ t → length (panels_text (nat_abs b)) ≤ 112_999
    by true q =
        let small = (in-range 0 most_size b q).1 in
        omega (arith, text-few (nat_abs b) small, count_small (nat_abs b) small)
    by false q = absurd (let z = rw q at e in omega arith)
