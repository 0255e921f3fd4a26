-- Row order, and that the pairs of n channels stand in it.
use Rattle.std.specs.Prelude.{◌≡◌, refl, List, [], ◌∷◌, ◌++◌, ◌⊎◌, ℕ, zero, suc, ◌-◌, ◌≤◌, ◌<◌}
use Rattle.std.proofs.Common.{sym, inl, inr, arith}
use Rattle.std.proofs.Math.Decide.{dec_lt}
use Rattle.ledger.specs.Pairs.{Pair, row, rows_from, cyclic}
use Rattle.record.specs.Loose.{Before}
use Rattle.record.specs.laws.Among.{Among, here, there}

-- no two pairs come before each other
pub one_way : {p q p' q' : ℕ} → Before p q p' q' → Before p' q' p q → ⊥
one_way (inl h) (inl k) = omega arith
one_way (inl h) (inr k) = omega (arith, k.0)
one_way (inr h) (inl k) = omega (arith, h.0)
one_way (inr h) (inr k) = omega (arith, h.1, k.1)

-- of two pairs one comes before the other, or they are the same
pub compared : (p q p' q' : ℕ) → Before p q p' q' ⊎ (Before p' q' p q ⊎ ((p ≡ p') × (q ≡ q')))
compared p q p' q' = by (dec_lt p p') (dec_lt p' p) (dec_lt q q') (dec_lt q' q)
  where
    by : Dec (p < p') → Dec (p' < p) → Dec (q < q') → Dec (q' < q) → Before p q p' q' ⊎ (Before p' q' p q ⊎ ((p ≡ p') × (q ≡ q')))
    by (yes h) k l m = inl (inl h)
    by (no h) (yes k) l m = inr (inl (inl k))
    by (no h) (no k) (yes l) m = inl (inr (omega arith, l))
    by (no h) (no k) (no l) (yes m) = inr (inl (inr (omega arith, m)))
    by (no h) (no k) (no l) (no m) = inr (inr (omega arith, omega arith))

-- x comes before y
abbrev pub Precedes : Pair → Pair → Type 0
Precedes x y = Before x.p x.q y.p y.q

-- each pair of a list comes before all later ones
unfoldable pub Rising : List Pair → Type 0
Rising [] = Unit
Rising (x ∷ xs) = ((y : Pair) → Among y xs → Precedes x y) × Rising xs

in_either : {y : Pair} (xs : List Pair) {ys : List Pair} → Among y (xs ++ ys) → Among y xs ⊎ Among y ys
in_either [] m = inr m
in_either (x ∷ xs) here = inl here
in_either (x ∷ xs) (there m) = later (in_either xs m)
  where
    later : {y : Pair} {xs ys : List Pair} → Among y xs ⊎ Among y ys → Among y (x ∷ xs) ⊎ Among y ys
    later (inl m) = inl (there m)
    later (inr m) = inr m

rising-++ : (xs ys : List Pair) → Rising xs → Rising ys → ((x y : Pair) → Among x xs → Among y ys → Precedes x y) → Rising (xs ++ ys)
unfolding Rising
rising-++ [] ys h g across = g
rising-++ (x ∷ xs) ys h g across = (
  λ y m. by y (in_either xs m),
  rising-++ xs ys h.1 g (λ x y m. across x y (there m)),
)
  where
    by : (y : Pair) → Among y xs ⊎ Among y ys → Precedes x y
    by y (inl m) = h.0 y m
    by y (inr m) = across x y here m

-- the pairs of a row, and of the rows from p on
in_row : (p q count : ℕ) (y : Pair) → Among y (row p q count) → (y.p ≡ p) × (q ≤ y.q)
unfolding row
in_row p q zero y m = elim m [ ]
in_row p q (suc count) y here = (refl, omega arith)
in_row p q (suc count) y (there m) = let later = in_row p (suc q) count y m in (later.0, omega (arith, later.1))

in_rows : (p count : ℕ) (y : Pair) → Among y (rows_from p count) → p ≤ y.p
unfolding rows_from
in_rows p zero y m = elim m [ ]
in_rows p (suc count) y m = by (in_either (row p (suc p) (suc count)) m) (in_rows (suc p) count y)
  where
    by : Among y (row p (suc p) (suc count)) ⊎ Among y (rows_from (suc p) count) → (Among y (rows_from (suc p) count) → suc p ≤ y.p) → p ≤ y.p
    by (inl m) later = omega (arith, (in_row p (suc p) (suc count) y m).0)
    by (inr m) later = omega (arith, later m)

row-rising : (p q count : ℕ) → Rising (row p q count)
unfolding Rising row
row-rising p q zero = tt
row-rising p q (suc count) = (
  λ y m. let h = in_row p (suc q) count y m in inr (sym h.0, h.1),
  row-rising p (suc q) count,
)

rows-rising : (p count : ℕ) → Rising (rows_from p count)
unfolding Rising rows_from
rows-rising p zero = tt
rows-rising p (suc count) =
    rising-++ (row p (suc p) (suc count)) (rows_from (suc p) count) (row-rising p (suc p) (suc count)) (rows-rising (suc p) count)
    (λ x y h k. inl (omega (arith, (in_row p (suc p) (suc count) x h).0, in_rows (suc p) count y k)))

pub cyclic-rising : (n : ℕ) → Rising (cyclic n)
unfolding cyclic
cyclic-rising n = rows-rising 0 (n - 1)
