-- A number below a range is not in a list of numbers within it.
use Rattle.std.specs.Prelude.{ℕ, ◌<◌, ◌≡◌, true, List, [], ◌∷◌}
use Rattle.std.proofs.Common.{arith}
use Rattle.std.proofs.lemmas.Bool.{and_parts}
use Rattle.integer.specs.Within.{within, all_within}
use Rattle.integer.specs.laws.Within.{is_within}
use Rattle.text.specs.laws.Split.{Free}

pub all-free : (low high s : ℕ) → s < low → (xs : List ℕ) → all_within low high xs ≡ true → Free s xs
unfolding all_within
all-free low high s h [] p = tt
all-free low high s h (x ∷ xs) p =
    let b = and_parts (within low high x) (all_within low high xs) p in
    let range = is_within low high x b.0 in
    (λ (e : x ≡ s). omega arith, all-free low high s h xs b.1)
