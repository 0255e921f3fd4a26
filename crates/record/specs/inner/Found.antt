-- A pair that a search found, or none: the answer that tells it, and that its numbers are those of a matrix of 8 by 8.
use Rattle.std.specs.Prelude.{suc, ◌<◌, ⊤, Option, Some, None}
use Rattle.record.specs.declared.query.Answer.{Answer}
use Rattle.record.specs.declared.query.Answer.TheVariants.{Pair, NoPair}
use Rattle.record.specs.declared.sweep.Place.{Place}

unfoldable pub told_pair : Option Place → Answer
told_pair None = NoPair
told_pair (Some pair) = Pair (suc pair.p) (suc pair.q)

unfoldable pub Inside : Option Place → Type 0
Inside None = ⊤
Inside (Some pair) = (pair.p < 8) × (pair.q < 8)
