-- The lemmas by which functions are proved: a set for each, which the attribute of the function of its name names.
use Rattle.std.proofs.Common.{to_z-of_z}
use Rattle.integer.specs.laws.Word.{held, negated, difference-held}
use mir.Facts.{to_z_pos}
use Rattle.turn.proofs.Power.{power, power_small, sine}
use Rattle.turn.proofs.Whole.{block}

pub ruleset inverse = (to_z-of_z, held, negated)

pub ruleset of = (to_z-of_z, to_z_pos, difference-held, power, power_small, sine)

pub ruleset put_block = (to_z-of_z, block)
