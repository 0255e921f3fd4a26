-- How near kept numbers are to the exact rotation Q = P / D, in whole numbers: the matrix, the axes, a row of Q as an axis of S / 2^e, and a row of V
-- as its direction. Both sides are multiplied by what clears every denominator, and lengths are compared by their squares.
use Rattle.std.specs.Prelude.{ℕ, ◌*◌, ◌^◌, ◌≤◌, ℤ, pos, ◌-ℤ◌, ◌*ℤ◌}
use Rattle.integer.specs.Matrix.{Matrix, product, conjugate, squares}
use Rattle.integer.specs.Square.{sq}
use Rattle.integer.specs.Sum.{sumℕ}
use Rattle.limits.specs.Limits.{units, whole}

-- X = D² × B − 1024 × P A Pᵀ
abbrev pub matrix_difference : ℕ → ℕ → Matrix → Matrix → Matrix → Matrix
matrix_difference n D P A B i j = pos (D * D) *ℤ B i j -ℤ pos units *ℤ conjugate n P A i j

-- Y = D × V − 2^30 × P
abbrev pub axes_difference : ℕ → Matrix → Matrix → Matrix
axes_difference D P v i j = pos D *ℤ v i j -ℤ pos whole *ℤ P i j

-- the squared differences of B and 1024 × Q A Qᵀ sum to at most (7m/2)²: 4 × ΣX² ≤ (7m × D²)²
abbrev pub MatrixNear : ℕ → ℕ → ℕ → Matrix → Matrix → Matrix → Type 0
MatrixNear n m D P A B = 4 * squares n (matrix_difference n D P A B) ≤ 7 * m * (D * D) * (7 * m * (D * D))

-- those of V and 2^30 × Q sum to at most (2m)²: ΣY² ≤ (2m × D)²
abbrev pub AxesNear : ℕ → ℕ → ℕ → Matrix → Matrix → Type 0
AxesNear n m D P v = squares n (axes_difference D P v) ≤ 2 * m * D * (2 * m * D)

-- document 02, W5: row i of Q, counted from 0, as an axis of S / 2^e: |1024 × Q_i S / 2^e − entry × Q_i| ≤ error, times 2^e × D
abbrev pub RowNear : ℕ → ℕ → Matrix → Matrix → ℕ → ℕ → ℤ → ℕ → Type 0
RowNear n D P S e i entry error =
    sumℕ n (λ k. sq (pos units *ℤ product n P S i k -ℤ pos (2 ^ e) *ℤ (entry *ℤ P i k))) ≤ 2 ^ e * (D * error) * (2 ^ e * (D * error))

-- row i of V as its direction: |V_i − 2^30 × Q_i| ≤ 2m, times D
abbrev pub DirectionNear : ℕ → ℕ → ℕ → Matrix → Matrix → ℕ → Type 0
DirectionNear n m D P v i = sumℕ n (λ k. sq (axes_difference D P v i k)) ≤ 2 * m * D * (2 * m * D)
