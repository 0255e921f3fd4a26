-- The pairs of a sweep by rows and columns, as its loops meet them: of the matrix, or rounds and their columns.
use Rattle.std.specs.Prelude.{ℕ, zero, suc, ◌+◌, ◌-◌, ◌*◌, ◌/◌, ◌≤◌, ◌<◌, cond, List, ◌++◌, ltb, drop, get_or}
use Rattle.ledger.specs.Pairs.{Pair}
use Rattle.ledger.specs.Tournament.{Lines, among, first_lines, moved, round, all_rounds}
use Rattle.ledger.specs.declared.Order.{Order}
use Rattle.ledger.specs.declared.Order.TheVariants.{Cyclic, Tournament}
use Rattle.ledger.specs.laws.Order.{pairs_left, rows_left}
use Rattle.record.specs.Work.{work_pair}
use Rattle.record.specs.declared.work.Work.{Work}

-- the lines after some rounds, and the pairs of the round that they make, of `count` columns
unfoldable pub lines_after : ℕ → Lines → Lines
lines_after zero lines = lines
lines_after (suc row) lines =
    let last = lines_after row lines in
    moved last.upper last.lower

unfoldable pub round_in : ℕ → ℕ → List Pair
round_in count row =
    let lines = lines_after row (first_lines count) in
    round lines.upper lines.lower

-- how many numbers a line has, for n channels
abbrev pub half : ℕ → ℕ
half n = (n + 1) / 2

abbrev pub rows_in : Order → ℕ → ℕ
rows_in Cyclic n = n
rows_in Tournament n = 2 * half n - 1

abbrev pub first_in : Order → ℕ → ℕ
first_in Cyclic row = row + 1
first_in Tournament row = 0

abbrev pub columns_in : Order → ℕ → ℕ
columns_in Cyclic n = n
columns_in Tournament n = half n

abbrev pub pair_in : Order → ℕ → ℕ → ℕ → Pair
pair_in Cyclic n row column = record { p = row; q = column }
pair_in Tournament n row column = get_or (round_in (half n) row) column (record { p = 0; q = 0 })

-- the pairs of the rows from `row` on
abbrev pub rows_left_in : Order → ℕ → ℕ → List Pair
rows_left_in Cyclic n row = rows_left n row
rows_left_in Tournament n row = among n (all_rounds (2 * half n - 1 - row) (lines_after row (first_lines (half n))))

-- those of a row from `column` on, and of the rows after it
abbrev pub pairs_left_in : Order → ℕ → ℕ → ℕ → List Pair
pairs_left_in Cyclic n row column = pairs_left n row column
pairs_left_in Tournament n row column = among n (drop column (round_in (half n) row)) ++ rows_left_in Tournament n (row + 1)

-- a row and a column that a loop comes to
pub record Within (order : Order) (n row column : ℕ) : Type 0 where
  pub some : 1 ≤ n
  pub high : n ≤ 8
  pub row_within : row < rows_in order n
  pub first : first_in order row ≤ column
  pub column-within : column < columns_in order n

-- a pair worked, or skipped where it names a number above n
unfoldable pub work_place : Work → Pair → Work
work_place w pair = cond (ltb pair.q w.n) (work_pair w pair) w
