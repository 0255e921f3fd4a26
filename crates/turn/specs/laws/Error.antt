-- How far one turn, with its roundings, is from the exact rotation, in whole numbers: N² and N times so far. Its bounds are proofs/Error's.
use Rattle.std.specs.Prelude.{ℕ, ◌*◌, pos, ◌-ℤ◌, ◌*ℤ◌}
use Rattle.integer.specs.Matrix.{Matrix, product, conjugate}
use Rattle.turn.specs.Exact.{exact}
use Rattle.turn.specs.Turn.{turned, turned_axes}
use Rattle.turn.specs.declared.pair.Rotation.{Rotation}

-- E = N² × (new) − R × (old) × Rᵀ
abbrev pub matrix_error : ℕ → Rotation → ℕ → ℕ → Matrix → Matrix
matrix_error n r p q a i j = pos (r.n * r.n) *ℤ turned r p q a i j -ℤ conjugate n (exact r p q) a i j

-- F = N × (new) − R × (old)
abbrev pub axes_error : ℕ → Rotation → ℕ → ℕ → Matrix → Matrix
axes_error n r p q v i j = pos r.n *ℤ turned_axes r p q v i j -ℤ product n (exact r p q) v i j
