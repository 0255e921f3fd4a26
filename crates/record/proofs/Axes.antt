-- The loop that makes the axes of a load: one more diagonal entry.
use mathlib.Core.Path.{◌≡◌, sym, ◌∙◌}
use mathlib.Core.List.{[]}
use Prim.Native.Nat.{ℕ, ◌+◌, ◌<◌}
use native.Mathlib.Decide.{ℕ_discrete, dec_lt}
use native.Mathlib.Omega.{arith}
use lib.IntN.{ℤ, pos}
use lib.ListN.{get_or, set}
use borrow.Author.Tests.{le-ltb}
use Rattle.integer.specs.Matrix.{diagonal}
use Rattle.integer.specs.laws.Matrix.{diagonal-same, diagonal-other}
use Rattle.turn.specs.laws.Eight.{square-cong}
use Rattle.turn.specs.laws.Stored.{store, stored, stored-column, stored_here, stored_row}
use Rattle.turn.specs.Turn.{square}
use Rattle.turn.specs.InUse.{in_use}
use Rattle.turn.specs.laws.InUse.{Use, inside, outside, use-of, in_use-inside, in_use-outside}

module _ (k : ℤ) where
  off-diagonal : (n i j : ℕ) → (i ≡ j → ⊥) → in_use n (diagonal k) i j ≡ pos 0
  off-diagonal n i j d = by-use (use-of n i j)
    where
      by-use : Use n i j → in_use n (diagonal k) i j ≡ pos 0
      by-use (inside h l) = in_use-inside n _ i j h l ∙ diagonal-other k i j d
      by-use (outside e) = in_use-outside n _ i j e

  elsewhere : (n i j : ℕ) → (i ≡ n → j ≡ n → ⊥) → in_use n (diagonal k) i j ≡ in_use (n + 1) (diagonal k) i j
  elsewhere n i j d = cases (ℕ_discrete i j) (dec_lt i n)
    where
      cases : Dec (i ≡ j) → Dec (i < n) → in_use n (diagonal k) i j ≡ in_use (n + 1) (diagonal k) i j
      cases (no e) l = off-diagonal n i j e ∙ sym (off-diagonal (n + 1) i j e)
      cases (yes e) (yes l) = in_use-inside n _ i j l (omega arith) ∙ sym (in_use-inside (n + 1) _ i j (omega arith) (omega arith))
      cases (yes e) (no l) =
          let o : i ≡ n → ⊥ = λ f. d f (sym e ∙ f) in
          in_use-outside n _ i j (rw (le-ltb i n (omega arith))) ∙ sym (in_use-outside (n + 1) _ i j (rw (le-ltb i (n + 1) (omega arith))))

  pub diagonal-more : (n : ℕ) → n < 8 →
      set (square (in_use n (diagonal k))) n (set (get_or (square (in_use n (diagonal k))) n []) n k) ≡ square (in_use (n + 1) (diagonal k))
  diagonal-more n h = store (in_use n (diagonal k)) n n k h h ∙ square-cong (λ i j _ _. entry i j (ℕ_discrete i n) (ℕ_discrete j n))
    where
      entry : (i j : ℕ) → Dec (i ≡ n) → Dec (j ≡ n) → stored n n k (in_use n (diagonal k)) i j ≡ in_use (n + 1) (diagonal k) i j
      entry i j (yes e) (yes d) =
          rw (e, d, stored_here n n k (in_use n (diagonal k)))
          (sym (in_use-inside (n + 1) _ n n (omega arith) (omega arith) ∙ diagonal-same k n))
      entry i j (yes e) (no d) = stored-column n n k (in_use n (diagonal k)) i j d ∙ elsewhere n i j (λ p q. d q)
      entry i j (no e) d = stored_row n n k (in_use n (diagonal k)) i j e ∙ elsewhere n i j (λ p q. e p)
