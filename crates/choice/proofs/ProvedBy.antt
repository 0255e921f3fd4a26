-- The lemmas by which functions are proved: a set for each, which the attribute of the function of its name names.
use Rattle.std.proofs.Common.{to_z-of_z}
use Rattle.integer.specs.laws.Word.{zero_bits}
use Rattle.choice.proofs.Chosen.{difference-back, none, some}
use Rattle.choice.proofs.Search.{found, passed, exhausted, product-fits}

pub ruleset choose_turn = (to_z-of_z, zero_bits, difference-back, none, some)

pub ruleset smallest_fit = (found, passed, exhausted, product-fits)
