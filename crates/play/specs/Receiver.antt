-- What a receiver of calls does with a line.
use Rattle.std.specs.Prelude.{ℕ, ◌≡◌, List, Option, Some, None}
use Rattle.play.specs.Steps.{left_by}

-- what the line prints, if it is a call
unfoldable pub printed_by : {S : Type 0} → Option (List ℕ × S) → Option (List ℕ)
printed_by None = None
printed_by (Some done) = Some done.0

-- The call of a line on the receiver s, by what it prints and leaves, `done`: the answer z, and the receiver after it.
pub record PlaysLine {S : Type 0} (done : Option (List ℕ × S)) (s : S) (z : Option (List ℕ)) (next : S) : Type 0 where
  pub is : z ≡ printed_by done
  pub leaves : next ≡ left_by s done
