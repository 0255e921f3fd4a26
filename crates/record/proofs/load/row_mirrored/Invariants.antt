-- Every entry passed is its mirror's equal.
use Rattle.std.proofs.Common.{◌≡◌, true}
use Rattle.integer.specs.Matrix.{matrix_of}
use Rattle.integer.specs.Range.{all}
use Rattle.record.proofs.Checks.{mirrored}
use Rattle.record.proofs.load.row_mirrored.Given as goal

abbrev pub invariant-loop-j : goal.invariant-loop-j
invariant-loop-j l = all (mirrored (matrix_of l.n l.numbers) l.i) l.j ≡ true
