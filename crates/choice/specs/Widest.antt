-- The size of an entry up to which the choice and the turn are proved not to wrap.
use Rattle.std.specs.Prelude.{ℕ, ◌+◌, ◌^◌}

-- The largest entry: 8 × 2^31 for a matrix of 8 by 8 entries of up to 2^31 units, and 4 for each of 448 turns. That is the
-- entry limit of document 02's W9, 2,097,152, in units of 1/1024.
abbrev pub widest : ℕ
widest = 2 ^ 34 + 1792
