-- A list as an array of a fixed length holds it.
use Rattle.std.specs.Prelude.{List, ◌++◌, ℕ, ◌-◌, length, replicate}

-- the list, and d after it up to the length m
unfoldable pub padded : {A : Type 0} → ℕ → A → List A → List A
padded m d xs = xs ++ replicate (m - length xs) d
