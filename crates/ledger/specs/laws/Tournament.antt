-- Document 02, W10: each pair comes exactly once in a sweep, cyclic or tournament, and the tournament's order is Table 3.1's.
use Rattle.std.specs.Prelude.{◌≡◌, refl, Bool, true, ◌&&◌, List, [], ◌∷◌, ℕ, ◌-◌, ◌*◌, ◌/◌, ◌<◌, ◌≤◌, T, ltb, eqb, length}
use Rattle.std.proofs.Common.{arith, ltb→lt, eqb→eq}
use Rattle.std.proofs.Math.Facts.{and_yes}
use Rattle.integer.specs.Range.{all}
use Rattle.integer.specs.laws.Range.{below}
use Rattle.ledger.specs.Once.{occurrences, ExactlyOnce}
use Rattle.ledger.specs.Pairs.{Pair, row, rows_from, cyclic, Ordered, Each}
use Rattle.ledger.specs.Tournament.{every_second, first_lines, last_of, before_last, moved, round, all_rounds, among, tournament}

-- The computed test: each pair is p < q < n, each of these stands in the list once, and there are n(n − 1)/2.
abbrev ordered_in : ℕ → Pair → Bool
ordered_in n pair = ltb pair.p pair.q && ltb pair.q n

abbrev is_each_in : ℕ → List Pair → Bool
is_each_in n [] = true
is_each_in n (pair ∷ pairs) = ordered_in n pair && is_each_in n pairs

abbrev once_in : List Pair → ℕ → ℕ → Bool
once_in pairs q p = eqb (occurrences (record { p = p; q = q }) pairs) 1

abbrev each_once : ℕ → List Pair → Bool
each_once n pairs = all (λ q. all (once_in pairs q) q) n

abbrev rightly-many : ℕ → List Pair → Bool
rightly-many n pairs = eqb (length pairs) (n * (n - 1) / 2)

abbrev once_test : ℕ → List Pair → Bool
once_test n pairs = is_each_in n pairs && (each_once n pairs && rightly-many n pairs)

ordered-in : (n : ℕ) (pair : Pair) → T (ordered_in n pair) → Ordered n pair
ordered-in n pair t = record { ordered = ltb→lt _ _ both.0; within = ltb→lt _ _ both.1 }
  where
    both : T (ltb pair.p pair.q) × T (ltb pair.q n)
    both = and_yes (ltb pair.p pair.q) (ltb pair.q n) t

each_in : (n : ℕ) (pairs : List Pair) → T (is_each_in n pairs) → Each n pairs
unfolding Each
each_in n [] t = tt
each_in n (pair ∷ pairs) t = (ordered-in n pair both.0, each_in n pairs both.1)
  where
    both : T (ordered_in n pair) × T (is_each_in n pairs)
    both = and_yes (ordered_in n pair) (is_each_in n pairs) t

pairs-once : (n : ℕ) (pairs : List Pair) → T (each_once n pairs) → (p q : ℕ) → p < q → q < n → occurrences (record { p = p; q = q }) pairs ≡ 1
pairs-once n pairs t p q l h = eqb→eq _ _ (below (once_in pairs q) q (below (λ q. all (once_in pairs q) q) n t q h) p l)

once_test-once : (n : ℕ) (pairs : List Pair) → T (once_test n pairs) → ExactlyOnce n pairs
once_test-once n pairs t = record { ordered = each_in n pairs both.0; once = pairs-once n pairs rest.0; count = eqb→eq _ _ rest.1 }
  where
    both : T (is_each_in n pairs) × T (each_once n pairs && rightly-many n pairs)
    both = and_yes (is_each_in n pairs) (each_once n pairs && rightly-many n pairs) t

    rest : T (each_once n pairs) × T (rightly-many n pairs)
    rest = and_yes (each_once n pairs) (rightly-many n pairs) both.1

-- One test of an order settles every n up to 8; 0 and 1, which have no pairs, pass it too.
pub once-to-8 : (order : ℕ → List Pair) → T (all (λ n. once_test n (order n)) 9) → (n : ℕ) → n ≤ 8 → ExactlyOnce n (order n)
once-to-8 order t n h = once_test-once n (order n) (below (λ n. once_test n (order n)) 9 t n (omega arith))

-- 'Each pair comes exactly once in a sweep.'
pub tournament-once : (n : ℕ) → n ≤ 8 → ExactlyOnce n (tournament n)
unfolding occurrences tournament among all_rounds round moved last_of before_last first_lines every_second
tournament-once = once-to-8 tournament tt

pub cyclic-once : (n : ℕ) → n ≤ 8 → ExactlyOnce n (cyclic n)
unfolding occurrences cyclic rows_from row
cyclic-once = once-to-8 cyclic tt

-- Source document 000, Table 3.1, n = 8: the lines at first, and after one move
pub table-left : first_lines 4 ≡ record { upper = 1 ∷ 3 ∷ 5 ∷ 7 ∷ []; lower = 2 ∷ 4 ∷ 6 ∷ 8 ∷ [] }
unfolding first_lines every_second
table-left = refl

pub table-right : moved (first_lines 4).upper (first_lines 4).lower ≡ record { upper = 1 ∷ 2 ∷ 3 ∷ 5 ∷ []; lower = 4 ∷ 6 ∷ 8 ∷ 7 ∷ [] }
unfolding first_lines every_second moved before_last last_of
table-right = refl

-- 'with n = 2 nothing moves'
pub nothing-moves : (first last : ℕ) → moved (first ∷ []) (last ∷ []) ≡ record { upper = first ∷ []; lower = last ∷ [] }
unfolding moved
nothing-moves first last = refl

-- a pair by its numbers as the documents count them, from 1
abbrev pub named : ℕ → ℕ → Pair
named p q = record { p = p - 1; q = q - 1 }

-- 'An odd n is played as n + 1, and pairs that name n + 1 are skipped': 4 meets 3, then 1, then 2.
pub tournament-of-3 : tournament 3 ≡ named 1 2 ∷ named 2 3 ∷ named 1 3 ∷ []
unfolding tournament among all_rounds round moved last_of before_last first_lines every_second
tournament-of-3 = refl

-- Each n has rounds of its own: those of 4, 6 and 8, a round a line, of 5, played as 6, and of 7. 'Within a round pairs are turned left to right':
-- the first two lines of 8 are the columns of Table 3.1, left and then right.
pub tournament-of-4 : tournament 4 ≡
    named 1 2 ∷ named 3 4 ∷
    named 1 4 ∷ named 2 3 ∷
    named 1 3 ∷ named 2 4 ∷ []
unfolding tournament among all_rounds round moved last_of before_last first_lines every_second
tournament-of-4 = refl

pub tournament-of-6 : tournament 6 ≡
    named 1 2 ∷ named 3 4 ∷ named 5 6 ∷
    named 1 4 ∷ named 2 6 ∷ named 3 5 ∷
    named 1 6 ∷ named 4 5 ∷ named 2 3 ∷
    named 1 5 ∷ named 3 6 ∷ named 2 4 ∷
    named 1 3 ∷ named 2 5 ∷ named 4 6 ∷ []
unfolding tournament among all_rounds round moved last_of before_last first_lines every_second
tournament-of-6 = refl

pub tournament-of-5 : tournament 5 ≡
    named 1 2 ∷ named 3 4 ∷
    named 1 4 ∷ named 3 5 ∷
    named 4 5 ∷ named 2 3 ∷
    named 1 5 ∷ named 2 4 ∷
    named 1 3 ∷ named 2 5 ∷ []
unfolding tournament among all_rounds round moved last_of before_last first_lines every_second
tournament-of-5 = refl

pub tournament-of-8 : tournament 8 ≡
    named 1 2 ∷ named 3 4 ∷ named 5 6 ∷ named 7 8 ∷
    named 1 4 ∷ named 2 6 ∷ named 3 8 ∷ named 5 7 ∷
    named 1 6 ∷ named 4 8 ∷ named 2 7 ∷ named 3 5 ∷
    named 1 8 ∷ named 6 7 ∷ named 4 5 ∷ named 2 3 ∷
    named 1 7 ∷ named 5 8 ∷ named 3 6 ∷ named 2 4 ∷
    named 1 5 ∷ named 3 7 ∷ named 2 8 ∷ named 4 6 ∷
    named 1 3 ∷ named 2 5 ∷ named 4 7 ∷ named 6 8 ∷ []
unfolding tournament among all_rounds round moved last_of before_last first_lines every_second
tournament-of-8 = refl

-- played as 8: the same without those that name 8
pub tournament-of-7 : tournament 7 ≡
    named 1 2 ∷ named 3 4 ∷ named 5 6 ∷
    named 1 4 ∷ named 2 6 ∷ named 5 7 ∷
    named 1 6 ∷ named 2 7 ∷ named 3 5 ∷
    named 6 7 ∷ named 4 5 ∷ named 2 3 ∷
    named 1 7 ∷ named 3 6 ∷ named 2 4 ∷
    named 1 5 ∷ named 3 7 ∷ named 4 6 ∷
    named 1 3 ∷ named 2 5 ∷ named 4 7 ∷ []
unfolding tournament among all_rounds round moved last_of before_last first_lines every_second
tournament-of-7 = refl
