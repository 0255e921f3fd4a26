-- The library's bytes of a number, least significant first, are the definition's.
use Rattle.std.proofs.Common.{◌∙◌}
use Rattle.std.proofs.Math.Nat.{div-div-eq-div-mul}
use Rattle.binary64.specs.Binary64.{bytes_of, low_bytes}
use Rattle.binary64.proofs.bytes_of.Goals as goal

pub returns : goal.returns
unfolding bytes_of low_bytes
returns c = c.to_le_bytes.ensures ∙ simp div-div-eq-div-mul
