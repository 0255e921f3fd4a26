-- Of a list: how many pass a test, a total, the largest number, whether a number is among them, and the first place that passes a test.
use Rattle.std.specs.Prelude.{ℕ, suc, ◌+◌, max, Bool, true, false, cond, List, [], ◌∷◌, eqb}

module _ {X : Type 0} where
  unfoldable pub total_of : (X → ℕ) → List X → ℕ
  total_of f [] = 0
  total_of f (x ∷ xs) = f x + total_of f xs

  abbrev pub how_many : (X → Bool) → List X → ℕ
  how_many test xs = total_of (λ x. cond (test x) 1 0) xs

  -- the number of the first that passes the test, where the first of all has the number `from`; 0 if none passes
  unfoldable pub first_from : ℕ → (X → Bool) → List X → ℕ
  first_from from test [] = 0
  first_from from test (x ∷ xs) = cond (test x) from (first_from (suc from) test xs)

-- 0 of none
unfoldable pub largest_of : List ℕ → ℕ
largest_of [] = 0
largest_of (x ∷ xs) = max x (largest_of xs)

unfoldable pub is_among : ℕ → List ℕ → Bool
is_among z [] = false
is_among z (x ∷ xs) = cond (eqb x z) true (is_among z xs)
