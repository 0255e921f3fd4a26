-- Laws of lines one after another: one line more and several more, the room that a line has among the others, and how long they are at most.
use Prim.Native.Nat.{ℕ, zero, suc, ◌+◌, ◌*◌, ◌<◌, ◌≤◌}
use Rattle.std.specs.Prelude.{◌≡◌, List, [], ◌++◌}
use Rattle.std.proofs.Math.Path.{refl}
use Rattle.std.proofs.Common.{sym, append_assoc, append-nil, add-suc, add-zero, add-one}
use Rattle.std.proofs.Math.Decide.{dec_lt}
use native.Mathlib.Omega.{arith}
use Rattle.std.proofs.Math.ListN.{length, length-append}
use Rattle.text.specs.Lines.{lines}

module _ (f : ℕ → List ℕ) where
  pub lines_none : lines f 0 ≡ []
  unfolding lines
  lines_none = refl

  pub lines_more : (i : ℕ) → lines f (i + 1) ≡ lines f i ++ f i
  unfolding lines
  lines_more i = rw (add-one i)

  pub lines-length : (i : ℕ) → length (lines f (i + 1)) ≡ length (lines f i) + length (f i)
  lines-length i = rw (lines_more i, length-append)

  -- Among the first k lines, line i has its room.
  pub line-within : (k i : ℕ) → i < k → length (lines f i) + length (f i) ≤ length (lines f k)
  unfolding lines
  line-within zero i h = absurd (omega arith)
  line-within (suc k) i h = by_place (line-within k i) (dec_lt i k)
    where
      by_place : (i < k → length (lines f i) + length (f i) ≤ length (lines f k)) → Dec (i < k) →
          length (lines f i) + length (f i) ≤ length (lines f k ++ f k)
      by_place below (yes l) = rw length-append (omega (arith, below l))
      by_place below (no l) = let e : i ≡ k = omega arith in rw (e, length-append) (omega arith)

-- Lines of at most b bytes each.
pub lines-most : (f : ℕ → List ℕ) (b k : ℕ) → ((i : ℕ) → i < k → length (f i) ≤ b) → length (lines f k) ≤ b * k
unfolding lines
lines-most f b zero h = omega arith
lines-most f b (suc k) h = rw length-append (omega (arith, lines-most f b k (λ i l. h i (omega arith)), h k (omega arith)))

pub lines_same : (k : ℕ) (f g : ℕ → List ℕ) → ((i : ℕ) → i < k → f i ≡ g i) → lines f k ≡ lines g k
unfolding lines
lines_same zero f g h = refl
lines_same (suc k) f g h = rw (lines_same k f g (λ i l. h i (omega arith)), h k (omega arith))

-- The first m, and then k more.
pub lines-append : (m k : ℕ) (f : ℕ → List ℕ) → lines f (m + k) ≡ lines f m ++ lines (λ i. f (m + i)) k
unfolding lines
lines-append m zero f = rw add-zero (sym (append-nil (lines f m)))
lines-append m (suc k) f = rw (add-suc m k, lines-append m k f) (append_assoc (lines f m) (lines (λ i. f (m + i)) k) (f (m + k)))
