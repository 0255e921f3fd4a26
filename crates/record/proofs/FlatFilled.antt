-- A flat matrix that is filled row by row.
use mathlib.Core.Path.{◌≡◌, refl, sym, ◌∙◌}
use mathlib.Core.List.{List}
use Prim.Native.Nat.{ℕ, ◌+◌, ◌*◌, ◌/◌, ◌%◌, ◌<◌}
use native.Mathlib.Decide.{ℕ_discrete}
use native.Mathlib.Omega.{arith}
use lib.IntN.{ℤ, pos}
use lib.ListN.{get_or, length-set, replicate, set}
use lib.Seq.{ext_get_or, get_or-set_other, get_or-set_same}
use Rattle.integer.specs.Matrix.{Matrix}
use Rattle.integer.specs.Tabulate.{tabulate}
use Rattle.integer.specs.laws.Tabulate.{get_d_tabulate, length-tabulate}
use Rattle.turn.specs.laws.Eight.{at-eight}
use Rattle.turn.specs.laws.Stored.{stored, stored-column, stored_here, stored_row}
use Rattle.turn.specs.InUse.{in_use}
use Rattle.turn.specs.Turn.{at, square}
use Rattle.record.proofs.Filled.{all, filled_to, one, row}
use Rattle.record.specs.Flat.{flat_of}

pub flat-cong : (f g : Matrix) → ((i j : ℕ) → i < 8 → j < 8 → f i j ≡ g i j) → flat_of f ≡ flat_of g
unfolding flat_of
flat-cong f g h =
    ext_get_or (pos 0) _ _ (length-tabulate 64 _ ∙ sym (length-tabulate 64 _))
    (λ k l. entry k (rw length-tabulate at l))
  where
    entry : (k : ℕ) → k < 64 → get_or (flat_of f) k (pos 0) ≡ get_or (flat_of g) k (pos 0)
    entry k l = get_d_tabulate 64 _ k (pos 0) l ∙ h (k / 8) (k % 8) (omega arith) (omega arith) ∙ sym (get_d_tabulate 64 _ k (pos 0) l)

-- rows of a matrix, flat
pub flat-square : (x : List (List ℤ)) (f : Matrix) → x ≡ square f → flat_of (at x) ≡ flat_of f
flat-square x f e = rw e (flat-cong _ _ (λ i j h l. at-eight f i j h l))

-- a store in row i and column j
pub set-flat : (f : Matrix) (i j : ℕ) (x : ℤ) → i < 8 → j < 8 → set (flat_of f) (8 * i + j) x ≡ flat_of (stored i j x f)
unfolding flat_of
set-flat f i j x h k =
    ext_get_or (pos 0) _ _ (length-set (flat_of f) (8 * i + j) x ∙ length-tabulate 64 _ ∙ sym (length-tabulate 64 _))
    (λ m l. entry m (rw (length-set (flat_of f) (8 * i + j) x, length-tabulate) at l) (ℕ_discrete (m / 8) i) (ℕ_discrete (m % 8) j))
  where
    other : (m : ℕ) → m < 64 → (m ≡ 8 * i + j → ⊥) → f (m / 8) (m % 8) ≡ stored i j x f (m / 8) (m % 8) →
        get_or (set (flat_of f) (8 * i + j) x) m (pos 0) ≡ get_or (flat_of (stored i j x f)) m (pos 0)
    other m l d e = get_or-set_other (flat_of f) (8 * i + j) m x (pos 0) d ∙ get_d_tabulate 64 _ m (pos 0) l ∙ e ∙
        sym (get_d_tabulate 64 _ m (pos 0) l)

    entry : (m : ℕ) → m < 64 → Dec (m / 8 ≡ i) → Dec (m % 8 ≡ j) →
        get_or (set (flat_of f) (8 * i + j) x) m (pos 0) ≡ get_or (flat_of (stored i j x f)) m (pos 0)
    entry m l (yes e) (yes d) =
        let place : 8 * i + j ≡ m = omega arith in
        rw (
          place,
          get_or-set_same (flat_of f) m x (pos 0) (rw length-tabulate l),
          get_d_tabulate 64 (λ m. stored i j x f (m / 8) (m % 8)) m (pos 0) l,
          e,
          d,
        )
        (sym (stored_here i j x f))
    entry m l (yes e) (no d) = other m l (λ p. d (omega arith)) (sym (stored-column i j x f (m / 8) (m % 8) d))
    entry m l (no e) d = other m l (λ p. e (omega arith)) (sym (stored_row i j x f (m / 8) (m % 8) e))

module _ (n : ℕ) (f : Matrix) where
  pub flat-none : replicate 64 (pos 0) ≡ flat_of (filled_to n f 0 0)
  unfolding flat_of tabulate filled_to
  flat-none = refl

  pub flat-one : (i j : ℕ) → i < 8 → j < 8 → set (flat_of (filled_to n f i j)) (8 * i + j) (f i j) ≡ flat_of (filled_to n f i (j + 1))
  flat-one i j h k = set-flat (filled_to n f i j) i j (f i j) h k ∙ flat-cong _ _ (λ x y _ _. one n f i j x y)

  pub flat-row : (i : ℕ) → i < n → flat_of (filled_to n f i n) ≡ flat_of (filled_to n f (i + 1) 0)
  flat-row i h = flat-cong _ _ (λ x y _ _. row n f i x y h)

  pub flat-all : flat_of (filled_to n f n 0) ≡ flat_of (in_use n f)
  flat-all = flat-cong _ _ (λ x y _ _. all n f x y)
