-- Laws of this subject: A test at every number below a bound: computed once, it holds at each.
use Rattle.std.specs.Prelude.{◌≡◌, Bool, ℕ, zero, suc, ◌<◌, T}
use Rattle.std.proofs.Common.{sym, subst, le_of_suc-le-suc, not-suc-le-zero, arith}
use Rattle.std.proofs.Math.Decide.{ℕ_discrete}
use Rattle.std.proofs.Math.Arith.{lt_of_le-ne}
use Rattle.std.proofs.Math.Facts.{and_yes, yes_and}
use Rattle.integer.specs.Range.{all}

last-or-below : (f : ℕ → Bool) (n k : ℕ) → T (f n) → (k < n → T (f k)) → k < suc n → Dec (k ≡ n) → T (f k)
last-or-below f n k t b h (yes e) = subst (λ m. T (f m)) (sym e) t
last-or-below f n k t b h (no d) = b (lt_of_le-ne (le_of_suc-le-suc h) d)

pub below : (f : ℕ → Bool) (n : ℕ) → T (all f n) → (k : ℕ) → k < n → T (f k)
below f zero t k h = absurd (not-suc-le-zero h)
below f (suc n) t k h =
    last-or-below f n k (and_yes (all f n) (f n) t).1 (below f n (and_yes (all f n) (f n) t).0 k) h (ℕ_discrete k n)

pub from_each : (f : ℕ → Bool) (n : ℕ) → ((k : ℕ) → k < n → T (f k)) → T (all f n)
from_each f zero h = tt
from_each f (suc n) h = yes_and (all f n) (f n) (from_each f n (λ k l. h k (omega arith))) (h n (omega arith))
