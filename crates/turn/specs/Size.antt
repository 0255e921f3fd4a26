-- The sizes for which the turn is proved not to wrap.
use Rattle.std.specs.Prelude.{ℕ, ◌≤◌, List, ℤ, nat_abs}
use Rattle.choice.specs.Widest.{widest}
use Rattle.turn.specs.Turn.{at}

pub record Small (a : List (List ℤ)) : Type 0 where
  pub small : (i j : ℕ) → nat_abs (at a i j) ≤ widest
