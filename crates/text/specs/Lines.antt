-- Lines one after another.
use Rattle.std.specs.Prelude.{ℕ, zero, suc, List, [], ◌++◌}

-- The lines at the places 0 to before `count`
unfoldable pub lines : (ℕ → List ℕ) → ℕ → List ℕ
lines f zero = []
lines f (suc count) = lines f count ++ f count
