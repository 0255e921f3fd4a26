-- Document 02, W10: 'Each pair comes exactly once in a sweep.' Said of any list of pairs, so of the cyclic sweep too.
use Rattle.std.specs.Prelude.{◌≡◌, ◌&&◌, cond, List, [], ◌∷◌, ℕ, ◌+◌, ◌-◌, ◌*◌, ◌/◌, ◌<◌, eqb, length}
use Rattle.ledger.specs.Pairs.{Pair, Each}

-- how often a pair stands in a list
unfoldable pub occurrences : Pair → List Pair → ℕ
occurrences pair [] = 0
occurrences pair (x ∷ xs) = cond (eqb x.p pair.p && eqb x.q pair.q) 1 0 + occurrences pair xs

-- no pair but those of p < q < n, each of these once, and so n(n − 1)/2 in all
pub record ExactlyOnce (n : ℕ) (pairs : List Pair) : Type 0 where
  pub ordered : Each n pairs
  pub once : (p q : ℕ) → p < q → q < n → occurrences (record { p = p; q = q }) pairs ≡ 1
  pub count : length pairs ≡ n * (n - 1) / 2
