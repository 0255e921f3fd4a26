-- Laws of this subject: The n by n entries in use of an 8 by 8 array of arrays, of which the others are 0.
use Rattle.std.specs.Prelude.{◌≡◌, false, cond, ◌&&◌, ℕ, ◌≤◌, ◌<◌, ltb, ℤ, pos}
use Rattle.std.proofs.Common.{sym, ◌∙◌, arith, lt-ltb, le-ltb}
use Rattle.std.proofs.Math.Decide.{dec_lt}
use Rattle.integer.specs.Matrix.{Matrix}
use Rattle.integer.specs.Matrix.{Symmetric as SymmetricBelow}
use Rattle.integer.specs.laws.Tests.{cond_same}
use Rattle.turn.specs.laws.Eight.{at-eight, at-outside}
use Rattle.turn.specs.Turn.{array, at, eight}
use Rattle.turn.specs.InUse.{in_use}

-- an entry of an 8 by 8 array of arrays, at any indices
pub at-square : (f : ℕ → ℕ → ℤ) (i j : ℕ) → at (eight (λ i. eight (f i))) i j ≡ in_use 8 f i j
unfolding in_use
at-square f i j = by_size (dec_lt i 8) (dec_lt j 8)
  where
    by_size : Dec (i < 8) → Dec (j < 8) → at (eight (λ i. eight (f i))) i j ≡ in_use 8 f i j
    by_size (yes h) (yes k) = at-eight f i j h k ∙ rw (lt-ltb i 8 h, lt-ltb j 8 k)
    by_size (yes h) (no k) = at-outside f i j (λ _ l. k l) ∙ rw (lt-ltb i 8 h, le-ltb j 8 (omega arith))
    by_size (no h) k = at-outside f i j (λ l _. h l) ∙ rw (le-ltb i 8 (omega arith))

-- whether an entry is in use
pub data Use (n i j : ℕ) : Type 0 where
  inside : i < n → j < n → Use n i j
  outside : (ltb i n && ltb j n) ≡ false → Use n i j

pub use-of : (n i j : ℕ) → Use n i j
use-of n i j = by_order (dec_lt i n) (dec_lt j n)
  where
    by_order : Dec (i < n) → Dec (j < n) → Use n i j
    by_order (yes h) (yes k) = inside h k
    by_order (yes h) (no k) = outside (rw (lt-ltb i n h, le-ltb j n (omega arith)))
    by_order (no h) k = outside (rw (le-ltb i n (omega arith)))

pub in_use-inside : (n : ℕ) (x : Matrix) (i j : ℕ) → i < n → j < n → in_use n x i j ≡ x i j
unfolding in_use
in_use-inside n x i j h k = rw (lt-ltb i n h, lt-ltb j n k)

pub in_use-outside : (n : ℕ) (x : Matrix) (i j : ℕ) → (ltb i n && ltb j n) ≡ false → in_use n x i j ≡ pos 0
unfolding in_use
in_use-outside n x i j e = rw e

-- a matrix that is 0 outside, after a change inside
pub at-array : (n : ℕ) (new old : Matrix) → n ≤ 8 → ((i j : ℕ) → (ltb i n && ltb j n) ≡ false → old i j ≡ pos 0) → (i j : ℕ) →
    at (array n new old) i j ≡ in_use n new i j
unfolding array in_use
at-array n new old b zero-outside i j = at-square _ i j ∙ by-use (use-of n i j)
  where
    by-use : Use n i j → in_use 8 (λ i j. cond (ltb i n && ltb j n) (new i j) (old i j)) i j ≡ in_use n new i j
    by-use (inside h k) = rw (lt-ltb i n h, lt-ltb j n k, lt-ltb i 8 (omega arith), lt-ltb j 8 (omega arith))
    by-use (outside e) = rw (e, zero-outside i j e) (cond_same (ltb i 8 && ltb j 8) (pos 0))

pub in_use-symmetric : (n : ℕ) (x : Matrix) → SymmetricBelow n x → (i j : ℕ) → in_use n x i j ≡ in_use n x j i
in_use-symmetric n x s i j = by-use (use-of n i j) (use-of n j i)
  where
    mirror : i < n → j < n → in_use n x i j ≡ in_use n x j i
    mirror h l = in_use-inside n x i j h l ∙ s i j h l ∙ sym (in_use-inside n x j i l h)

    by-use : Use n i j → Use n j i → in_use n x i j ≡ in_use n x j i
    by-use (inside h l) u = mirror h l
    by-use (outside e) (inside h l) = mirror l h
    by-use (outside e) (outside d) = in_use-outside n x i j e ∙ sym (in_use-outside n x j i d)
