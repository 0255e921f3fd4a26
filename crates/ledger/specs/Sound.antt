-- The bounds of the kept numbers after m turns.
use Rattle.std.specs.Prelude.{ℕ, ◌+◌, ◌*◌}
use Rattle.limits.specs.Limits.{entry_limit, units, whole}

-- the norm of the kept matrix after m turns: 8 × 8 entries of up to 2^31 units at first, and less than 4 more with each turn
abbrev pub matrix_bound : ℕ → ℕ
matrix_bound m = 8 * (units * entry_limit) + 4 * m

-- the norm of a column of the axes after m turns
abbrev pub axes_bound : ℕ → ℕ
axes_bound m = whole + m
