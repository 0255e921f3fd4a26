-- Laws of numbers within a range: what the test tells, of one and of each of a list, which is also the library's test; of two lists one after the
-- other, and of a list's parts.
use Prim.Native.Nat.{ℕ, zero, suc, ◌≤◌, ◌<◌}
use Rattle.std.specs.Prelude.{◌≡◌, Bool, true, false, ◌&&◌, leb, length, get_or, take, drop}
use Rattle.std.proofs.Math.Path.{refl, ap}
use Rattle.std.proofs.lemmas.Bool.{and_parts}
use Rattle.std.specs.List.{list_all}
use mathlib.Core.List.{List, [], ◌∷◌, ◌++◌}
use Rattle.std.proofs.Common.{arith, leb-true}
use Rattle.integer.specs.Within.{within, all_within}

pub is_within : (low high x : ℕ) → within low high x ≡ true → (low ≤ x) × (x ≤ high)
unfolding within
is_within low high x e =
    let p = and_parts (leb low x) (leb x high) e in
    (leb-true low x p.0, leb-true x high p.1)

-- as the library tests each of a list
pub list_all-within : (low high : ℕ) (xs : List ℕ) → list_all (within low high) xs ≡ all_within low high xs
unfolding all_within
list_all-within low high [] = refl
list_all-within low high (x ∷ xs) = ap (λ b. within low high x && b) (list_all-within low high xs)

-- a number of the list is at most the range's end, and so is what stands for one past it
pub all-at : (low high : ℕ) (xs : List ℕ) → all_within low high xs ≡ true → (i : ℕ) → get_or xs i 0 ≤ high
unfolding all_within
all-at low high [] e i = omega arith
all-at low high (x ∷ xs) e zero = (is_within low high x (and_parts (within low high x) (all_within low high xs) e).0).1
all-at low high (x ∷ xs) e (suc i) = all-at low high xs (and_parts (within low high x) (all_within low high xs) e).1 i

module _ (low high : ℕ) where
  pub all_append : (xs ys : List ℕ) → all_within low high xs ≡ true → all_within low high ys ≡ true → all_within low high (xs ++ ys) ≡ true
  unfolding all_within
  all_append [] ys p q = q
  all_append (x ∷ xs) ys p q =
      let b = and_parts (within low high x) (all_within low high xs) p in
      simp b.0 (all_append xs ys b.1 q)

  pub all_take : (n : ℕ) (xs : List ℕ) → all_within low high xs ≡ true → all_within low high (take n xs) ≡ true
  unfolding all_within
  all_take zero xs p = refl
  all_take (suc n) [] p = refl
  all_take (suc n) (x ∷ xs) p =
      let b = and_parts (within low high x) (all_within low high xs) p in
      simp b.0 (all_take n xs b.1)

  pub all_drop : (n : ℕ) (xs : List ℕ) → all_within low high xs ≡ true → all_within low high (drop n xs) ≡ true
  unfolding all_within
  all_drop zero xs p = p
  all_drop (suc n) [] p = refl
  all_drop (suc n) (x ∷ xs) p = all_drop n xs (and_parts (within low high x) (all_within low high xs) p).1

  pub within-at : (xs : List ℕ) → all_within low high xs ≡ true → (i : ℕ) → i < length xs → within low high (get_or xs i 0) ≡ true
  unfolding all_within
  within-at [] p i h = absurd (omega arith)
  within-at (x ∷ xs) p zero h = (and_parts (within low high x) (all_within low high xs) p).0
  within-at (x ∷ xs) p (suc i) h = within-at xs (and_parts (within low high x) (all_within low high xs) p).1 i (omega arith)
