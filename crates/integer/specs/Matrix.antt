-- Square matrices as functions of two indices: their numbers row after row, product, transpose, and the sum of the squares of the entries.
use Rattle.std.specs.Prelude.{◌≡◌, cond, List, ℕ, ◌+◌, ◌*◌, ◌/◌, ◌%◌, ◌<◌, eqb, ℤ, pos, get_or}
use Rattle.integer.specs.Square.{sq}
use Rattle.integer.specs.Sum.{sumℕ}
use Rattle.integer.specs.Dot.{dot}
use Rattle.integer.specs.Tabulate.{tabulate}

-- a matrix: its entry in row i and column j
abbrev pub Matrix : Type 0
Matrix = ℕ → ℕ → ℤ

-- n×n whole numbers, row after row, as a matrix; indices count from 0
unfoldable pub matrix_of : ℕ → List ℤ → Matrix
matrix_of n numbers i j = get_or numbers (i * n + j) (pos 0)

-- and the n×n numbers of a matrix, row after row
unfoldable pub row_major : ℕ → Matrix → List ℤ
row_major n X = tabulate (n * n) (λ p. X (p / n) (p % n))

-- row i of X times column j of Y, n entries each
unfoldable pub product : ℕ → Matrix → Matrix → Matrix
product n X Y i j = dot n (X i) (λ k. Y k j)

abbrev pub transpose : Matrix → Matrix
transpose X i j = X j i

-- R X Rᵀ
unfoldable pub conjugate : ℕ → Matrix → Matrix → Matrix
conjugate n R X = product n (product n R X) (transpose R)

-- k on the diagonal
unfoldable pub diagonal : ℤ → Matrix
diagonal k i j = cond (eqb i j) k (pos 0)

-- the sum of the squares of the n by n entries
unfoldable pub squares : ℕ → Matrix → ℕ
squares n X = sumℕ n (λ i. sumℕ n (λ j. sq (X i j)))

-- equal in the n by n entries
abbrev pub Same : ℕ → Matrix → Matrix → Type 0
Same n X Y = (i j : ℕ) → i < n → j < n → X i j ≡ Y i j

-- symmetric in the n by n entries
abbrev pub Symmetric : ℕ → Matrix → Type 0
Symmetric n X = (i j : ℕ) → i < n → j < n → X i j ≡ X j i
