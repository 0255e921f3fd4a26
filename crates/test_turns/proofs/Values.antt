-- The lemmas by which functions on test values are proved: a set for each, which their attributes name.
use Rattle.std.proofs.Common.{ℕ}
use mir.Facts.{to_z-of_z}
use Rattle.turn.specs.Shape.{Shaped}
use Rattle.turn.specs.laws.Eight.{shaped-square}
use Rattle.turn.specs.laws.Size.{rotation_of-turns}
use Rattle.test_turns.specs.Generator.{axes_of, row_of}
use Rattle.test_turns.specs.Ranges.{signed-size, size_from-most, threshold-positive}

pub ruleset sizes = (size_from-most)

pub ruleset signs = (to_z-of_z, signed-size)

pub ruleset thresholds = (threshold-positive)

pub axes-shaped : (base : ℕ) → Shaped (axes_of base)
unfolding axes_of row_of
axes-shaped base = shaped-square _

pub ruleset turns = (rotation_of-turns, axes-shaped)
