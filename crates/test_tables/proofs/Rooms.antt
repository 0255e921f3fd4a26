-- Lists of readings within their ranges, as they are drawn and cut to a length.
use mathlib.Core.Path.{◌≡◌}
use mathlib.Core.List.{List}
use Prim.Native.Nat.{ℕ, ◌≤◌, ◌<◌}
use native.Mathlib.Omega.{arith}
use lib.ListN.{get_or, get_or-eq_default, length}
use Rattle.std.proofs.Math.Decide.{dec_lt}
use Rattle.sums.specs.inner.Ranges.{Room}

-- a list of m numbers of which each is at most b: so is what is read past its end
pub room_of : (m b : ℕ) (xs : List ℕ) → length xs ≡ m → ((p : ℕ) → p < m → get_or xs p 0 ≤ b) → Room m b xs
room_of m b xs e h = record { size = e; most = λ p. by p (dec_lt p m) }
  where
    by : (p : ℕ) → Dec (p < m) → get_or xs p 0 ≤ b
    by p (yes l) = h p l
    by p (no l) = let past : length xs ≤ p = omega arith in rw (get_or-eq_default xs 0 past) (omega arith)
