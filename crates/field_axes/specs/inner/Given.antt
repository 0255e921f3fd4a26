-- What private functions promise: numbers that are written, or the refusal before them.
use Rattle.std.specs.Prelude.{ℕ, ◌≡◌, List, Result, length}
use Rattle.refusal.specs.Refusal.{judged}
use Rattle.refusal.specs.declared.Refusal.{Refusal}
use Rattle.text.specs.Written.{lent_after}

pub record Gives {X : Type 0} (refusal : ℕ) (written entry exit : List X) (r : Result ℕ Refusal) : Type 0 where
  pub answer : r ≡ judged refusal (length written)
  pub buffer : exit ≡ lent_after refusal written entry
