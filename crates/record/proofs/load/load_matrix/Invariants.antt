-- The rows are filled row by row. The inner loop knows the matrix as it was where it began.
use Rattle.std.proofs.Common.{◌≡◌, ◌*ℤ◌, ℕ, List, ℤ, pos}
use Rattle.integer.specs.Matrix.{Matrix, matrix_of}
use Rattle.limits.specs.Limits.{units}
use Rattle.record.proofs.Filled.{filled_to}
use Rattle.turn.specs.Turn.{square}
use Rattle.record.proofs.load.load_matrix.Given as goal

-- the numbers in units
abbrev pub loaded : ℕ → List ℤ → Matrix
loaded n numbers i j = pos units *ℤ matrix_of n numbers i j

abbrev pub invariant-loop-j : goal.invariant-loop-j
invariant-loop-j l =
    l.initial.matrix ≡ square (filled_to l.n (loaded l.n l.numbers) l.i 0) → l.matrix ≡ square (filled_to l.n (loaded l.n l.numbers) l.i l.j)

abbrev pub invariant-loop-i : goal.invariant-loop-i
invariant-loop-i l = l.matrix ≡ square (filled_to l.n (loaded l.n l.numbers) l.i 0)
