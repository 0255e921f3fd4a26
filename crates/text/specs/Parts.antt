-- A text in parts: its lines, or the fields of a line.
use Rattle.std.specs.Prelude.{ℕ, cond, List, [], ◌∷◌, eqb}
use Rattle.std.proofs.Math.Option.{Option, none, some}

unfoldable pub onto : ℕ → List (List ℕ) → List (List ℕ)
onto b [] = (b ∷ []) ∷ []
onto b (part ∷ parts) = (b ∷ part) ∷ parts

-- The parts before, between and after the bytes that equal s: one part more than there are such bytes.
unfoldable pub split : ℕ → List ℕ → List (List ℕ)
split s [] = [] ∷ []
split s (b ∷ bs) = cond (eqb b s) ([] ∷ split s bs) (onto b (split s bs))

-- What the first part is and what those after it are, together: nothing where one of them is nothing.
unfoldable pub before : {X : Type 0} → Option X → Option (List X) → Option (List X)
before none xs = none
before (some x) none = none
before (some x) (some xs) = some (x ∷ xs)
