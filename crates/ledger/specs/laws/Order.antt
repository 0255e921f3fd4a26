-- The pairs of the cyclic sweep as two nested loops meet them: row p from q on, and the rows after it.
use Rattle.std.specs.Prelude.{◌≡◌, refl, List, [], ◌∷◌, ◌++◌, ℕ, zero, suc, ◌+◌, ◌-◌, ◌≤◌, ◌<◌}
use Rattle.std.proofs.Common.{ap, add-one, arith}
use Rattle.ledger.specs.Pairs.{Pair, cyclic, row, rows_from}

-- the rows from p on
unfoldable pub rows_left : ℕ → ℕ → List Pair
rows_left n p = rows_from p (n - 1 - p)

-- row p from q on, and the rows after it
unfoldable pub pairs_left : ℕ → ℕ → ℕ → List Pair
pairs_left n p q = row p q (n - q) ++ rows_left n (p + 1)

pub all_left : (n : ℕ) → cyclic n ≡ rows_left n 0
unfolding cyclic rows_left
all_left n = ap (rows_from 0) (omega arith)

pub row-begins : (n p : ℕ) → p < n → rows_left n p ≡ pairs_left n p (p + 1)
unfolding rows_left pairs_left rows_from row
row-begins n p h = by (n - 1 - p) refl
  where
    by : (count : ℕ) → n - 1 - p ≡ count → rows_from p count ≡ row p (p + 1) (n - (p + 1)) ++ rows_from (p + 1) (n - 1 - (p + 1))
    by zero e =
        let k : n - (p + 1) ≡ 0 = omega arith in
        let l : n - 1 - (p + 1) ≡ 0 = omega arith in
        rw (k, l)
    by (suc count) e =
        let k : n - (p + 1) ≡ suc count = omega arith in
        let l : n - 1 - (p + 1) ≡ count = omega arith in
        rw (k, l, add-one p)

pub pair-next : (n p q : ℕ) → q < n → pairs_left n p q ≡ record { p = p; q = q } ∷ pairs_left n p (q + 1)
unfolding pairs_left row
pair-next n p q h =
    let k : n - q ≡ suc (n - (q + 1)) = omega arith in
    rw (k, add-one q)

pub row_ends : (n p q : ℕ) → n ≤ q → pairs_left n p q ≡ rows_left n (p + 1)
unfolding pairs_left row
row_ends n p q h =
    let k : n - q ≡ 0 = omega arith in
    rw k

pub none_left : (n p : ℕ) → n ≤ p → rows_left n p ≡ []
unfolding rows_left rows_from
none_left n p h =
    let k : n - 1 - p ≡ 0 = omega arith in
    rw k
