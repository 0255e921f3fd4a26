-- The pairs of a sweep in either order, as its loops meet them: row after row, column after column.
use mathlib.Core.Path.{◌≡◌, refl, ap, subst}
use mathlib.Core.Bool.{Bool, true, false, cond}
use mathlib.Core.List.{List, [], ◌∷◌, ◌++◌}
use Prim.Native.Nat.{ℕ, suc, ◌+◌, ◌-◌, ◌*◌, ◌/◌, ◌%◌, ◌≤◌, ◌<◌}
use native.Mathlib.Numerals.{add-one}
use native.Mathlib.Omega.{arith}
use borrow.Author.Tests.{lt-ltb, ltb-true}
use lib.Dec.{eqb, eqb→eq, ltb, ltb→lt}
use lib.ListN.{length, drop_of_length-le, get_or}
use lib.Seq.{drop-cons}
use Rattle.integer.specs.Range.{all}
use Rattle.integer.specs.laws.Range.{below}
use Rattle.ledger.specs.Order.{pairs_in}
use Rattle.ledger.specs.Pairs.{Pair}
use Rattle.ledger.specs.Tournament.{Lines, among, before_last, every_second, first_lines, last_of, moved, round, all_rounds, tournament}
use Rattle.ledger.specs.declared.Order.{Order}
use Rattle.ledger.specs.declared.Order.TheVariants.{Cyclic, Tournament}
use Rattle.ledger.specs.laws.Order.{all_left, none_left, pair-next, row-begins, row_ends}
use Rattle.record.specs.inner.Orders.{Within, columns_in, first_in, half, lines_after, pair_in, pairs_left_in, round_in, rows_in}
use Rattle.record.specs.inner.Orders.{rows_left_in, work_place}
use Rattle.record.specs.Work.{work_pair}
use Rattle.record.specs.declared.work.Work.{Work}
use Rattle.record.proofs.Sweeping.{Sweeping, one_more}

among-++ : (n : ℕ) (xs ys : List Pair) → among n (xs ++ ys) ≡ among n xs ++ among n ys
unfolding among
among-++ n [] ys = refl
among-++ n (x ∷ xs) ys = by (ltb x.q n) (among-++ n xs ys)
  where
    by : (b : Bool) → among n (xs ++ ys) ≡ among n xs ++ among n ys →
        cond b (x ∷ among n (xs ++ ys)) (among n (xs ++ ys)) ≡ cond b (x ∷ among n xs) (among n xs) ++ among n ys
    by true e = ap (λ zs. x ∷ zs) e
    by false e = e

-- one test over every round: as many pairs as a line has numbers
round-length : (count row : ℕ) → count < 5 → row < 7 → length (round_in count row) ≡ count
unfolding round_in lines_after first_lines every_second moved last_of before_last round
round-length count row h l =
    eqb→eq _ _ (below (λ row. eqb (length (round_in count row)) count) 7
    (below (λ count. all (λ row. eqb (length (round_in count row)) count) 7) 5 tt count h) row l)

module _ (n : ℕ) (some : 1 ≤ n) (high : n ≤ 8) where
  pub all-left-in : (order : Order) → pairs_in order n ≡ rows_left_in order n 0
  unfolding tournament lines_after
  all-left-in Cyclic = all_left n
  all-left-in Tournament =
      let k : n + n % 2 - 1 ≡ 2 * half n - 1 - 0 = omega arith in
      let l : (n + n % 2) / 2 ≡ half n = omega arith in
      rw (k, l)

  pub none-left-in : (order : Order) (row : ℕ) → rows_in order n ≤ row → rows_left_in order n row ≡ []
  unfolding all_rounds among
  none-left-in Cyclic row h = none_left n row h
  none-left-in Tournament row h =
      let k : 2 * half n - 1 - row ≡ 0 = omega arith in
      rw k

  module _ (row : ℕ) where
    lines : Lines
    lines = lines_after row (first_lines (half n))

    pub row-begins-in : (order : Order) → row < rows_in order n → rows_left_in order n row ≡ pairs_left_in order n row (first_in order row)
    unfolding all_rounds lines_after round_in lines
    row-begins-in Cyclic h = row-begins n row h
    row-begins-in Tournament h =
        let k : 2 * half n - 1 - row ≡ suc (2 * half n - 1 - (row + 1)) = omega arith in
        rw (k, add-one row) (among-++ n (round lines.upper lines.lower) _)

    of-round : row < rows_in Tournament n → length (round_in (half n) row) ≡ half n
    of-round h = round-length (half n) row (omega arith) (omega arith)

    pub row-ends-in : (order : Order) (column : ℕ) → row < rows_in order n → columns_in order n ≤ column →
        pairs_left_in order n row column ≡ rows_left_in order n (row + 1)
    unfolding among
    row-ends-in Cyclic column h l = row_ends n row column l
    row-ends-in Tournament column h l = rw (drop_of_length-le (round_in (half n) row) {i = column} (omega (arith, of-round h, l)))

    -- the pair in a column, skipped where it names a number above n
    pub pair-next-in : (order : Order) (column : ℕ) → row < rows_in order n → column < columns_in order n →
        pairs_left_in order n row column ≡
        cond (ltb (pair_in order n row column).q n) (pair_in order n row column ∷ pairs_left_in order n row (column + 1))
        (pairs_left_in order n row (column + 1))
    unfolding among
    pair-next-in Cyclic column h l = rw (lt-ltb column n l) (pair-next n row column l)
    pair-next-in Tournament column h l =
        rw (add-one column, drop-cons (round_in (half n) row) column (record { p = 0; q = 0 }) (omega (arith, of-round h, l)))
        (by (ltb (pair_in Tournament n row column).q n) _ _)
      where
        by : (b : Bool) (xs ys : List Pair) →
            cond b (pair_in Tournament n row column ∷ xs) xs ++ ys ≡ cond b (pair_in Tournament n row column ∷ (xs ++ ys)) (xs ++ ys)
        by true xs ys = refl
        by false xs ys = refl

-- one test over every round: each pair is p < q
round-ordered : (count row column : ℕ) → count < 5 → row < 7 → column < count →
    (get_or (round_in count row) column (record { p = 0; q = 0 })).p < (get_or (round_in count row) column (record { p = 0; q = 0 })).q
unfolding round_in lines_after first_lines every_second moved last_of before_last round
round-ordered count row column h l c =
    ltb→lt _ _ (below (ordered count row) count
    (below (λ row. all (ordered count row) count) 7 (below (λ count. all (λ row. all (ordered count row) count) 7) 5 tt count h) row l) column c)
  where
    ordered : ℕ → ℕ → ℕ → Bool
    ordered count row column =
        ltb (get_or (round_in count row) column (record { p = 0; q = 0 })).p (get_or (round_in count row) column (record { p = 0; q = 0 })).q

pub pair-ordered : (order : Order) (n row column : ℕ) → Within order n row column → (pair_in order n row column).p < (pair_in order n row column).q
pair-ordered Cyclic n row column w = omega (arith, w.first)
pair-ordered Tournament n row column w =
    round-ordered (half n) row column (omega (arith, w.high)) (omega (arith, w.high, w.row_within)) w.column-within

-- one place more
module _ (order : Order) (n row column : ℕ) (within : Within order n row column) (w₀ w w' : Work) (pairs₀ : List Pair) (size : w.n ≡ n) where
  abbrev pair : Pair
  pair = pair_in order n row column

  abbrev rest : List Pair
  rest = pairs_left_in order n row (column + 1)

  by_place : (b : Bool) → ltb pair.q n ≡ b → Sweeping w₀ pairs₀ w (cond b (pair ∷ rest) rest) → w' ≡ cond b (work_pair w pair) w →
      Sweeping w₀ pairs₀ w' rest
  by_place true e s same =
      one_more w₀ w pairs₀ pair rest w' s same (pair-ordered order n row column within) (rw size (ltb-true _ _ e)) (rw size within.high)
  by_place false e s same = rw same s

  pub one_place : Sweeping w₀ pairs₀ w (pairs_left_in order n row column) → w' ≡ work_place w (pair_in order w.n row column) →
      Sweeping w₀ pairs₀ w' rest
  unfolding work_place
  one_place s same =
      by_place (ltb pair.q n) refl
      (rw (pair-next-in n within.some within.high row order column within.row_within within.column-within) at s)
      (subst (λ k. w' ≡ cond (ltb (pair_in order k row column).q k) (work_pair w (pair_in order k row column)) w) size same)
