-- What private functions promise: Document 01, 'Making a turn': c, s and N, and the two new entries of a pair, each rounded once.
use Rattle.std.specs.Prelude.{neg_ℤ}
use Rattle.turn.specs.declared.pair.Rotation.{Rotation}

-- the rotation back, in which −s stands for s
unfoldable pub inverse : Rotation → Rotation
inverse r = record { c = r.c; s = neg_ℤ r.s; n = r.n }
