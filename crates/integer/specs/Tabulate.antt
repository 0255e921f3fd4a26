-- The list of a function's values at 0, 1, ..
use Rattle.std.specs.Prelude.{List, [], ◌∷◌, ℕ, zero, suc}

-- f 0, .., f (m − 1)
unfoldable pub tabulate : {A : Type 0} → ℕ → (ℕ → A) → List A
tabulate zero f = []
tabulate (suc m) f = f zero ∷ tabulate m (λ i. f (suc i))
