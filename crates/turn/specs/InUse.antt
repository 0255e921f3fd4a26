-- The n by n entries in use of an 8 by 8 array of arrays, of which the others are 0.
use Rattle.std.specs.Prelude.{cond, ◌&&◌, ℕ, ltb, pos}
use Rattle.integer.specs.Matrix.{Matrix}

-- x in the n by n entries in use, and 0 elsewhere
unfoldable pub in_use : ℕ → Matrix → Matrix
in_use n x i j = cond (ltb i n && ltb j n) (x i j) (pos 0)
