-- The pairs of the cyclic sweep, for every n: each is p < q < n, and there are n(n − 1)/2 of them.
use Rattle.std.specs.Prelude.{◌≡◌, List, [], ◌∷◌, ◌++◌, ℕ, zero, suc, ◌+◌, ◌-◌, ◌*◌, ◌/◌, ◌<◌, ◌≤◌, length}
use Rattle.std.proofs.Common.{sym, ◌∙◌, ap, arith, length-append}
use Rattle.std.proofs.Math.Nat.{div-eq_of_eq-mul_right}
use Rattle.ledger.specs.Pairs.{Pair, row, rows_from, cyclic, Each}

each-++ : (n : ℕ) (xs ys : List Pair) → Each n xs → Each n ys → Each n (xs ++ ys)
unfolding Each
each-++ n [] ys h g = g
each-++ n (x ∷ xs) ys h g = (h.0, each-++ n xs ys h.1 g)

row-pairs : (n p q count : ℕ) → p < q → q + count ≤ n → Each n (row p q count)
unfolding Each row
row-pairs n p q zero l h = tt
row-pairs n p q (suc count) l h = (record { ordered = l; within = omega arith }, row-pairs n p (suc q) count (omega arith) (omega arith))

rows-pairs : (n p count : ℕ) → suc p + count ≤ n → Each n (rows_from p count)
unfolding Each rows_from
rows-pairs n p zero h = tt
rows-pairs n p (suc count) h =
    each-++ n (row p (suc p) (suc count)) (rows_from (suc p) count) (row-pairs n p (suc p) (suc count) (omega arith) (omega arith))
    (rows-pairs n (suc p) count (omega arith))

-- 'the pairs (1,2), (1,3) .. (n−1,n)': each is a pair of the matrix
pub cyclic-pairs : (n : ℕ) → Each n (cyclic n)
unfolding cyclic rows_from Each
cyclic-pairs zero = tt
cyclic-pairs (suc n) = rows-pairs (suc n) 0 (suc n - 1) (omega arith)

row-length : (p q count : ℕ) → length (row p q count) ≡ count
unfolding row
row-length p q zero = omega arith
row-length p q (suc count) = omega (arith, row-length p (suc q) count)

rows-length : (p count : ℕ) → suc count * count ≡ 2 * length (rows_from p count)
unfolding rows_from
rows-length p zero = omega arith
rows-length p (suc count) = omega
    (arith, length-append (row p (suc p) (suc count)) (rows_from (suc p) count), row-length p (suc p) (suc count), rows-length (suc p) count)

-- the number that refusal 11 adds to m
pub cyclic-length : (n : ℕ) → 1 ≤ n → length (cyclic n) ≡ n * (n - 1) / 2
unfolding cyclic
cyclic-length n h = sym (div-eq_of_eq-mul_right (omega arith) (ap (λ k. k * (n - 1)) predecessor ∙ rows-length 0 (n - 1)))
  where
    predecessor : n ≡ suc (n - 1)
    predecessor = omega arith
