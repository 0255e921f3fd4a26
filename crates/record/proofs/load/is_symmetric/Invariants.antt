-- Every row passed is mirrored.
use Rattle.std.proofs.Common.{◌≡◌, true}
use Rattle.integer.specs.Matrix.{matrix_of}
use Rattle.integer.specs.Range.{all}
use Rattle.record.proofs.Checks.{mirrored}
use Rattle.record.proofs.load.is_symmetric.Given as goal

abbrev pub invariant-loop-i : goal.invariant-loop-i
invariant-loop-i l = all (λ i. all (mirrored (matrix_of l.n l.numbers) i) i) l.i ≡ true
