-- z is held exactly, and its product with the factor is exact.
use Rattle.std.proofs.Common.{◌∙◌, ap, ap₂}
use Rattle.std.specs.Float.{binary64}
use Rattle.std.specs.Float.Ieee.{mul, of_int}
use mir.Facts.{to_z-of_z}
use Rattle.binary64.proofs.Factors.{scaled-product}
use Rattle.binary64.proofs.scaled.Goals as goal

pub returns : goal.returns
returns c =
    ap₂ (mul binary64) (ap (of_int binary64) (to_z-of_z c.ranges.z)) c.factor.ensures
    ∙ scaled-product c.args.z c.args.e c.requires.0 c.requires.1
