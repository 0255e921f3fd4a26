-- Document 01, 'Sweep': the pairs (1,2), (1,3) .. (1,n), (2,3) .. (n−1,n) in that order. Indices count from 0.
use Rattle.std.specs.Prelude.{ℕ, zero, suc, ◌-◌, ◌<◌, List, [], ◌∷◌, ◌++◌}

pub record Pair : Type 0 where
  pub p : ℕ
  pub q : ℕ

-- (p,q), (p,q+1) .., `count` of them
unfoldable pub row : ℕ → ℕ → ℕ → List Pair
row p q zero = []
row p q (suc count) = record { p = p; q = q } ∷ row p (suc q) count

-- the rows from p on, the first of `count` pairs, each one shorter than the one before
unfoldable pub rows_from : ℕ → ℕ → List Pair
rows_from p zero = []
rows_from p (suc count) = row p (suc p) (suc count) ++ rows_from (suc p) count

unfoldable pub cyclic : ℕ → List Pair
cyclic n = rows_from 0 (n - 1)

-- p < q < n
pub record Ordered (n : ℕ) (pair : Pair) : Type 0 where
  pub ordered : pair.p < pair.q
  pub within : pair.q < n

-- of every pair of a list
unfoldable pub Each : ℕ → List Pair → Type 0
Each n [] = Unit
Each n (pair ∷ pairs) = Ordered n pair × Each n pairs
