-- The constant table of a tournament's rounds: it is made of the definition's rounds, so each of its rows is one.
use mathlib.Core.Path.{◌≡◌}
use mathlib.Core.Bool.{Bool, ◌&&◌}
use mathlib.Core.List.{List, [], ◌∷◌, ◌++◌}
use Prim.Native.Nat.{ℕ, ◌+◌, ◌-◌, ◌*◌, ◌/◌, ◌≤◌, ◌<◌}
use native.Mathlib.Omega.{arith}
use lib.Dec.{T, eqb, eqb→eq}
use lib.ListN.{get_or, replicate, take}
use mir.Facts.{and_yes}
use Rattle.integer.specs.Range.{all}
use Rattle.integer.specs.Tabulate.{tabulate}
use Rattle.integer.specs.laws.Range.{below}
use Rattle.ledger.specs.Pairs.{Pair}
use Rattle.ledger.specs.Tournament.{before_last, every_second, first_lines, last_of, moved, round}
use Rattle.record.specs.inner.Orders.{lines_after, round_in}

pub half-most : (n : ℕ) → n ≤ 8 → (n + 1) / 2 ≤ 4
half-most n h = omega (arith, h)

-- p and q of each pair of a round, in 8 places
unfoldable pub flat : List Pair → List ℕ
flat [] = []
flat (pair ∷ pairs) = pair.p ∷ pair.q ∷ flat pairs

unfoldable pub row_of : ℕ → ℕ → List ℕ
row_of h row = take 8 (flat (round_in h row) ++ replicate 8 0)

unfoldable pub table : List (List ℕ)
table = tabulate 1 (row_of 1) ++ tabulate 3 (row_of 2) ++ tabulate 5 (row_of 3) ++ tabulate 7 (row_of 4)

found : ℕ → ℕ → ℕ → Pair
found h row column = get_or (round_in h row) column (record { p = 0; q = 0 })

read : ℕ → ℕ → ℕ → ℕ
read h row place = get_or (get_or table ((h - 1) * (h - 1) + row) []) place 0

same-p : ℕ → ℕ → ℕ → Bool
same-p h row column = eqb (read h row (2 * column)) (found h row column).p

same-q : ℕ → ℕ → ℕ → Bool
same-q h row column = eqb (read h row (2 * column + 1)) (found h row column).q

right : ℕ → ℕ → ℕ → Bool
right h row column = same-p h row column && same-q h row column

every : T (all (λ h. all (λ row. all (right h row) h) (2 * h - 1)) 5)
unfolding right same-p same-q read found table row_of flat tabulate round_in lines_after first_lines every_second moved last_of before_last round
every = tt

module _ (h row column : ℕ) (most : h ≤ 4) (r : row < 2 * h - 1) (c : column < h) where
  here : T (right h row column)
  here =
      below (right h row) h
      (below (λ row. all (right h row) h) (2 * h - 1) (below (λ h. all (λ row. all (right h row) h) (2 * h - 1)) 5 every h (omega arith)) row r)
      column c

  pub entry-p : get_or (get_or table ((h - 1) * (h - 1) + row) []) (2 * column) 0 ≡ (get_or (round_in h row) column (record { p = 0; q = 0 })).p
  unfolding right same-p same-q read found
  entry-p = eqb→eq _ _ (and_yes (same-p h row column) (same-q h row column) here).0

  pub entry-q : get_or (get_or table ((h - 1) * (h - 1) + row) []) (2 * column + 1) 0 ≡ (get_or (round_in h row) column (record { p = 0; q = 0 })).q
  unfolding right same-p same-q read found
  entry-q = eqb→eq _ _ (and_yes (same-p h row column) (same-q h row column) here).1
