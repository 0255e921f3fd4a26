-- What private functions promise: Laws of lists of eight, and of 8 by 8 arrays of arrays.
use Rattle.std.specs.Prelude.{cond, List, ℕ, ltb}
use Rattle.turn.specs.Turn.{eight}

-- eight filled from the front: the first i are those of f, the others are z
abbrev pub front : {A : Type 0} → (ℕ → A) → A → ℕ → List A
front f z i = eight (λ k. cond (ltb k i) (f k) z)
