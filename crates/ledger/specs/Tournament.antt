-- Document 02, W10: the pairs of a tournament sweep, by two lines that move. The lines' numbers count from 1, as there; a pair counts from 0.
use Rattle.std.specs.Prelude.{ℕ, zero, suc, ◌+◌, ◌-◌, ◌/◌, ◌%◌, min, max, cond, List, [], ◌∷◌, ◌++◌, ltb}
use Rattle.ledger.specs.Pairs.{Pair}

pub record Lines : Type 0 where
  pub upper : List ℕ
  pub lower : List ℕ

-- every second number from x on, `count` of them
unfoldable pub every_second : ℕ → ℕ → List ℕ
every_second x zero = []
every_second x (suc count) = x ∷ every_second (x + 2) count

-- 'For even n the upper line starts 1, 3, 5 .. and the lower 2, 4, 6 ..', n/2 numbers each
unfoldable pub first_lines : ℕ → Lines
first_lines count = record { upper = every_second 1 count; lower = every_second 2 count }

-- the last of the numbers x, xs, and those before it
unfoldable pub last_of : ℕ → List ℕ → ℕ
last_of x [] = x
last_of x (y ∷ ys) = last_of y ys

unfoldable pub before_last : ℕ → List ℕ → List ℕ
before_last x [] = []
before_last x (y ∷ ys) = x ∷ before_last y ys

-- 'After each round the first upper number stays, the first lower one becomes second upper, the other upper ones move right, the last upper one
-- becomes last lower, and the other lower ones move left; with n = 2 nothing moves.'
unfoldable pub moved : List ℕ → List ℕ → Lines
moved [] lower = record { upper = []; lower = lower }
moved (first ∷ []) lower = record { upper = first ∷ []; lower = lower }
moved (first ∷ x ∷ xs) [] = record { upper = first ∷ x ∷ xs; lower = [] }
moved (first ∷ x ∷ xs) (y ∷ ys) = record { upper = first ∷ y ∷ before_last x xs; lower = ys ++ (last_of x xs ∷ []) }

-- 'Within a round pairs are turned left to right, each as (smaller, larger).'
unfoldable pub round : List ℕ → List ℕ → List Pair
round [] lower = []
round (x ∷ upper) [] = []
round (x ∷ upper) (y ∷ lower) = record { p = min x y - 1; q = max x y - 1 } ∷ round upper lower

unfoldable pub all_rounds : ℕ → Lines → List Pair
all_rounds zero lines = []
all_rounds (suc count) lines = round lines.upper lines.lower ++ all_rounds count (moved lines.upper lines.lower)

-- the pairs that name no number above n
unfoldable pub among : ℕ → List Pair → List Pair
among n [] = []
among n (pair ∷ pairs) = cond (ltb pair.q n) (pair ∷ among n pairs) (among n pairs)

-- 'An odd n is played as n + 1, and pairs that name n + 1 are skipped. .. There are n − 1 rounds for even n and n for odd.'
unfoldable pub tournament : ℕ → List Pair
tournament n =
    let even = n + n % 2 in
    among n (all_rounds (even - 1) (first_lines (even / 2)))
