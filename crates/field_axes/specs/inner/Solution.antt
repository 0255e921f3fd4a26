-- What private functions promise: A run and its axes as numbers, and the refusals before it.
use Rattle.std.specs.Prelude.{ℕ, zero, suc, ◌+◌, List, [], ◌++◌, ℤ, drop, get_or, take}

-- of the first i rows of the axes' numbers those that are written: all but the axis's own number, and n of its row of v
unfoldable pub used : ℕ → List (List ℤ) → ℕ → List ℤ
used n rows zero = []
used n rows (suc i) = used n rows i ++ take (n + 2) (drop 1 (get_or rows i []))
