-- Every pair p < q < n is one of the pairs of n channels.
use Rattle.std.specs.Prelude.{◌≡◌, List, [], ◌∷◌, ◌++◌, ℕ, zero, suc, ◌+◌, ◌-◌, ◌≤◌, ◌<◌}
use Rattle.std.proofs.Math.Decide.{ℕ_discrete}
use Rattle.std.proofs.Common.{arith}
use Rattle.ledger.specs.Pairs.{Pair, row, rows_from, cyclic}

pub data Among (pair : Pair) : List Pair → Type 0 where
  here : {pairs : List Pair} → Among pair (pair ∷ pairs)
  there : {first : Pair} {pairs : List Pair} → Among pair pairs → Among pair (first ∷ pairs)

among-left : {pair : Pair} {xs : List Pair} (ys : List Pair) → Among pair xs → Among pair (xs ++ ys)
among-left ys here = here
among-left ys (there m) = there (among-left ys m)

among-right : {pair : Pair} (xs : List Pair) {ys : List Pair} → Among pair ys → Among pair (xs ++ ys)
among-right [] m = m
among-right (first ∷ xs) m = there (among-right xs m)

row-among : (p q count j : ℕ) → q ≤ j → j < q + count → Among (record { p = p; q = j }) (row p q count)
unfolding row
row-among p q zero j h k = absurd (omega arith)
row-among p q (suc count) j h k = first-or-later (ℕ_discrete j q) (λ l. row-among p (suc q) count j l (omega arith))
  where
    first-or-later : Dec (j ≡ q) → (suc q ≤ j → Among (record { p = p; q = j }) (row p (suc q) count)) →
        Among (record { p = p; q = j }) (record { p = p; q = q } ∷ row p (suc q) count)
    first-or-later (yes e) later = rw e here
    first-or-later (no d) later = there (later (omega arith))

rows-among : (p count i j : ℕ) → p ≤ i → i < j → j ≤ p + count → Among (record { p = i; q = j }) (rows_from p count)
unfolding rows_from
rows-among p zero i j h k l = absurd (omega arith)
rows-among p (suc count) i j h k l = first-or-later (ℕ_discrete i p) (λ m. rows-among (suc p) count i j m k (omega arith))
  where
    first-or-later : Dec (i ≡ p) → (suc p ≤ i → Among (record { p = i; q = j }) (rows_from (suc p) count)) →
        Among (record { p = i; q = j }) (row p (suc p) (suc count) ++ rows_from (suc p) count)
    first-or-later (yes e) later = rw e (among-left (rows_from (suc p) count) (row-among p (suc p) (suc count) j (omega arith) (omega arith)))
    first-or-later (no d) later = among-right (row p (suc p) (suc count)) (later (omega arith))

pub cyclic-among : (n p q : ℕ) → p < q → q < n → Among (record { p = p; q = q }) (cyclic n)
unfolding cyclic
cyclic-among n p q h k = rows-among 0 (n - 1) p q (omega arith) h (omega arith)
