-- What private functions promise: The sizes for which the turn is proved not to wrap.
use Rattle.std.specs.Prelude.{◌≡◌, ℕ, ◌+◌, ◌*◌, ◌/◌, ◌<◌, ◌^◌, List, ℤ, nat_abs}
use Rattle.choice.specs.Widest.{widest}
use Rattle.turn.specs.Turn.{at}
use Rattle.turn.specs.declared.pair.Rotation.{Rotation}

pub record SymmetricRows (a : List (List ℤ)) : Type 0 where
  pub mirror : (i j : ℕ) → at a i j ≡ at a j i

-- |c| + |s|
abbrev pub weight : Rotation → ℕ
weight r = nat_abs r.c + nat_abs r.s

-- the largest entry after a pass over entries of size k
unfoldable pub passed : Rotation → ℕ → ℕ
passed r k = (weight r * k + r.n / 2) / r.n

-- two passes over entries of up to `widest` don't wrap
pub record TurnFits (r : Rotation) : Type 0 where
  pub positive : 0 < r.n
  pub first-pass : weight r * widest + r.n < 2 ^ 63
  pub second-pass : weight r * passed r widest + r.n < 2 ^ 63
