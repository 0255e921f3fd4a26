-- A power of two is shifted exactly, and held exactly; so is its quotient by 1024.
use Rattle.std.proofs.Common.{ℕ, ◌^◌, pos, ◌∙◌, ap, arith}
use Rattle.std.specs.Float.{binary64}
use Rattle.std.specs.Float.Ieee.{div, of_int}
use Rattle.limits.specs.Limits.{units}
use Rattle.integer.specs.laws.Word.{shifted_one}
use Rattle.binary64.specs.laws.Operations.{whole-held}
use Rattle.binary64.proofs.Factors.{factor-quotient, power_small}
use Rattle.binary64.proofs.factor.Goals as goal

pub int_to_float-result : goal.int_to_float-result
int_to_float-result c = rw (shifted_one c.args.e (omega arith)) (whole-held (pos (2 ^ c.args.e)) (power_small c.args.e c.requires))

pub returns : goal.returns
returns c =
    ap (λ (x : ℕ). div binary64 (of_int binary64 (pos x)) (of_int binary64 (pos units))) (shifted_one c.args.e (omega arith))
    ∙ factor-quotient c.args.e c.requires
