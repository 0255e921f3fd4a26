-- The rows that a load is put into.
use Rattle.std.specs.Prelude.{List, ℤ, pos, replicate}

-- rows of 0
unfoldable pub blank : List (List ℤ)
blank = replicate 8 (replicate 8 (pos 0))
