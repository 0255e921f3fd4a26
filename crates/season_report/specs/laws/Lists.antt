-- Laws of lists: of the largest number, of what is among others, of the first place that passes a test, and of a total.
use Prim.Native.Nat.{ℕ, zero, suc, ◌+◌, ◌-◌, ◌<◌, ◌≤◌, max}
use Rattle.std.specs.Prelude.{◌≡◌, Bool, eqb, get_or}
use Rattle.std.proofs.Math.Path.{refl, ap}
use Rattle.std.proofs.Common.{sym, ◌∙◌, true≢false, le_antisymm, le_trans, eq-eqb, eqb-true}
use Rattle.std.proofs.Math.Bool.{true, false, cond}
use mathlib.Core.List.{List, [], ◌∷◌, ◌++◌, append_assoc, append-nil, flat_map}
use Rattle.std.proofs.Math.Decide.{dec_lt}
use Rattle.std.proofs.Math.Nat.{le-max_left, le-max_right, max-eq_left, max-eq_right, max-le}
use native.Mathlib.Omega.{arith}
use Rattle.std.proofs.Math.ListN.{length}
use Rattle.season_report.specs.Lists.{first_from, is_among, largest_of, total_of}

-- ---- the largest

pub largest-append : (xs ys : List ℕ) → largest_of (xs ++ ys) ≡ max (largest_of xs) (largest_of ys)
unfolding largest_of
largest-append [] ys = sym (max-eq_right (omega arith))
largest-append (x ∷ xs) ys =
    rw (largest-append xs ys)
    (le_antisymm
    (max-le (le_trans (le-max_left _ _) (le-max_left _ _)) (max-le (le_trans (le-max_right _ _) (le-max_left _ _)) (le-max_right _ _)))
    (max-le (max-le (le-max_left _ _) (le_trans (le-max_left _ _) (le-max_right _ _))) (le_trans (le-max_right _ _) (le-max_right _ _))))

-- ---- what is among others

pub among-append : (z : ℕ) (xs ys : List ℕ) → is_among z (xs ++ ys) ≡ cond (is_among z xs) true (is_among z ys)
unfolding is_among
among-append z [] ys = refl
among-append z (x ∷ xs) ys = by (eqb x z) (among-append z xs ys)
  where
    by : (t : Bool) → is_among z (xs ++ ys) ≡ cond (is_among z xs) true (is_among z ys) →
        cond t true (is_among z (xs ++ ys)) ≡ cond (cond t true (is_among z xs)) true (is_among z ys)
    by true h = refl
    by false h = h

pub among-most : (z : ℕ) (xs : List ℕ) → is_among z xs ≡ true → z ≤ largest_of xs
unfolding is_among largest_of
among-most z [] e = absurd (true≢false (sym e))
among-most z (x ∷ xs) e = by (eqb x z) refl (among-most z xs) e
  where
    by : (t : Bool) → eqb x z ≡ t → (is_among z xs ≡ true → z ≤ largest_of xs) → cond t true (is_among z xs) ≡ true → z ≤ max x (largest_of xs)
    by true q h e = rw (← eqb-true x z q) (le-max_left x (largest_of xs))
    by false q h e = le_trans (h e) (le-max_right x (largest_of xs))

pub largest-among : (x : ℕ) (xs : List ℕ) → is_among (largest_of (x ∷ xs)) (x ∷ xs) ≡ true
unfolding is_among largest_of
largest-among x [] = rw (max-eq_left {n = x} {m = 0} (omega arith), eq-eqb x x refl)
largest-among x (y ∷ ys) = by (dec_lt x (largest_of (y ∷ ys))) (largest-among y ys)
  where
    either : (t : Bool) → cond t true true ≡ true
    either true = refl
    either false = refl

    by : Dec (x < largest_of (y ∷ ys)) → is_among (largest_of (y ∷ ys)) (y ∷ ys) ≡ true →
        is_among (max x (largest_of (y ∷ ys))) (x ∷ y ∷ ys) ≡ true
    by (yes l) h =
        let e : max x (largest_of (y ∷ ys)) ≡ largest_of (y ∷ ys) = max-eq_right (omega arith) in
        ap (λ z. is_among z (x ∷ y ∷ ys)) e ∙ ap (cond (eqb x (largest_of (y ∷ ys))) true) h ∙ either (eqb x (largest_of (y ∷ ys)))
    by (no l) h =
        let e : max x (largest_of (y ∷ ys)) ≡ x = max-eq_left (omega arith) in
        ap (λ z. is_among z (x ∷ y ∷ ys)) e ∙ rw (eq-eqb x x refl)

-- where any number is among them, the largest is
pub largest-there : (z : ℕ) (xs : List ℕ) → is_among z xs ≡ true → is_among (largest_of xs) xs ≡ true
unfolding is_among
largest-there z [] e = absurd (true≢false (sym e))
largest-there z (x ∷ xs) e = largest-among x xs

pub at-among : (xs : List ℕ) (i : ℕ) → i < length xs → is_among (get_or xs i 0) xs ≡ true
unfolding is_among
at-among [] i h = absurd (omega arith)
at-among (x ∷ xs) zero h = rw (eq-eqb x x refl)
at-among (x ∷ xs) (suc i) h = by (eqb x (get_or xs i 0)) (at-among xs i (omega arith))
  where
    by : (t : Bool) → is_among (get_or xs i 0) xs ≡ true → cond t true (is_among (get_or xs i 0) xs) ≡ true
    by true q = refl
    by false q = q

-- ---- the first that passes a test

module _ {X : Type 0} (test : X → Bool) where
  -- none passes: the search goes on in what follows
  pub first-none : (k : ℕ) (xs ys : List X) → 1 ≤ k → first_from k test xs ≡ 0 → first_from k test (xs ++ ys) ≡ first_from (k + length xs) test ys
  unfolding first_from
  first-none k [] ys some e = let q : k + 0 ≡ k = omega arith in rw q
  first-none k (x ∷ xs) ys some e = by (test x) (first-none (suc k) xs ys (omega arith)) e
    where
      by : (t : Bool) → (first_from (suc k) test xs ≡ 0 → first_from (suc k) test (xs ++ ys) ≡ first_from (suc k + length xs) test ys) →
          cond t k (first_from (suc k) test xs) ≡ 0 →
          cond t k (first_from (suc k) test (xs ++ ys)) ≡ first_from (k + suc (length xs)) test ys
      by true h e = absurd (omega arith)
      by false h e = h e ∙ ap (λ n. first_from n test ys) (let q : suc k + length xs ≡ k + suc (length xs) = omega arith in q)

  -- one passes: what follows does not matter
  pub first_some : (k : ℕ) (xs ys : List X) → 1 ≤ first_from k test xs → first_from k test (xs ++ ys) ≡ first_from k test xs
  unfolding first_from
  first_some k [] ys h = absurd (omega arith)
  first_some k (x ∷ xs) ys h = by (test x) (first_some (suc k) xs ys) h
    where
      by : (t : Bool) → (1 ≤ first_from (suc k) test xs → first_from (suc k) test (xs ++ ys) ≡ first_from (suc k) test xs) →
          1 ≤ cond t k (first_from (suc k) test xs) →
          cond t k (first_from (suc k) test (xs ++ ys)) ≡ cond t k (first_from (suc k) test xs)
      by true g h = refl
      by false g h = g h

  -- the place that is found: it is in the list, and passes
  pub record FoundAt (k : ℕ) (xs : List X) (d : X) (p : ℕ) : Type 0 where
    pub from : k ≤ p
    pub within : p < k + length xs
    pub passes : test (get_or xs (p - k) d) ≡ true

  pub first_found : (k : ℕ) (xs : List X) (d : X) → 1 ≤ first_from k test xs → FoundAt k xs d (first_from k test xs)
  unfolding first_from
  first_found k [] d h = absurd (omega arith)
  first_found k (x ∷ xs) d h = by (test x) refl (first_found (suc k) xs d) h
    where
      by : (t : Bool) → test x ≡ t → (1 ≤ first_from (suc k) test xs → FoundAt (suc k) xs d (first_from (suc k) test xs)) →
          1 ≤ cond t k (first_from (suc k) test xs) → FoundAt k (x ∷ xs) d (cond t k (first_from (suc k) test xs))
      by true q g h = record { from = omega arith; within = omega arith; passes = let e : k - k ≡ 0 = omega arith in rw e q }
      by false q g h =
          let f = g h in
          let e : first_from (suc k) test xs - k ≡ suc (first_from (suc k) test xs - suc k) = omega (arith, f.from) in
          record { from = omega (arith, f.from); within = omega (arith, f.within); passes = rw e f.passes }

  -- and none before it passes
  pub first-least : (k : ℕ) (xs : List X) (d : X) (i : ℕ) → i < length xs → test (get_or xs i d) ≡ true → 1 ≤ k →
      (1 ≤ first_from k test xs) × (first_from k test xs ≤ k + i)
  unfolding first_from
  first-least k [] d i l e some = absurd (omega arith)
  first-least k (x ∷ xs) d zero l e some = rw e (omega arith, omega arith)
  first-least k (x ∷ xs) d (suc i) l e some = by (test x) (first-least (suc k) xs d i (omega arith) e (omega arith))
    where
      by : (t : Bool) → (1 ≤ first_from (suc k) test xs) × (first_from (suc k) test xs ≤ suc k + i) →
          (1 ≤ cond t k (first_from (suc k) test xs)) × (cond t k (first_from (suc k) test xs) ≤ k + suc i)
      by true h = (omega arith, omega arith)
      by false h = (h.0, omega (arith, h.1))

-- where a number is among others, one is found
pub among-found : (z k : ℕ) (xs : List ℕ) → 1 ≤ k → is_among z xs ≡ true → 1 ≤ first_from k (λ x. eqb x z) xs
unfolding first_from is_among
among-found z k [] some e = absurd (true≢false (sym e))
among-found z k (x ∷ xs) some e = by (eqb x z) (among-found z (suc k) xs (omega arith)) e
  where
    by : (t : Bool) → (is_among z xs ≡ true → 1 ≤ first_from (suc k) (λ x. eqb x z) xs) → cond t true (is_among z xs) ≡ true →
        1 ≤ cond t k (first_from (suc k) (λ x. eqb x z) xs)
    by true h e = some
    by false h e = h e

-- ---- lists of lists: the numbers that each of some things has

module _ {X : Type 0} (errs : X → List ℕ) where
  pub flat-more : (xs : List X) (x : X) → flat_map errs (xs ++ x ∷ []) ≡ flat_map errs xs ++ errs x
  unfolding flat_map
  flat-more [] x = append-nil (errs x)
  flat-more (y ∷ ys) x = rw (flat-more ys x) (sym (append_assoc (errs y) (flat_map errs ys) (errs x)))

  -- a number that is among all of them is found with one
  pub flat-found : (z k : ℕ) (xs : List X) → 1 ≤ k → is_among z (flat_map errs xs) ≡ true → 1 ≤ first_from k (λ x. is_among z (errs x)) xs
  unfolding flat_map first_from
  flat-found z k [] some e = unfold is_among in absurd (true≢false (sym e))
  flat-found z k (x ∷ xs) some e =
      by (is_among z (errs x)) (flat-found z (suc k) xs (omega arith)) (sym (among-append z (errs x) (flat_map errs xs)) ∙ e)
    where
      by : (t : Bool) → (is_among z (flat_map errs xs) ≡ true → 1 ≤ first_from (suc k) (λ x. is_among z (errs x)) xs) →
          cond t true (is_among z (flat_map errs xs)) ≡ true → 1 ≤ cond t k (first_from (suc k) (λ x. is_among z (errs x)) xs)
      by true h e = some
      by false h e = h e

  -- a number that one of them has is among all
  pub flat-among : (z : ℕ) (xs : List X) (i : ℕ) (d : X) → i < length xs → is_among z (errs (get_or xs i d)) ≡ true →
      is_among z (flat_map errs xs) ≡ true
  unfolding flat_map
  flat-among z [] i d h e = absurd (omega arith)
  flat-among z (x ∷ xs) zero d h e = among-append z (errs x) (flat_map errs xs) ∙ rw e
  flat-among z (x ∷ xs) (suc i) d h e =
      among-append z (errs x) (flat_map errs xs) ∙ by (is_among z (errs x)) (flat-among z xs i d (omega arith) e)
    where
      by : (t : Bool) → is_among z (flat_map errs xs) ≡ true → cond t true (is_among z (flat_map errs xs)) ≡ true
      by true q = refl
      by false q = q

  -- one that is larger than all is found with none
  pub flat-beyond : (z k : ℕ) (xs : List X) → largest_of (flat_map errs xs) < z → first_from k (λ x. is_among z (errs x)) xs ≡ 0
  unfolding flat_map first_from
  flat-beyond z k [] h = refl
  flat-beyond z k (x ∷ xs) h =
      let e = largest-append (errs x) (flat_map errs xs) in
      by (is_among z (errs x)) refl
      (omega (arith, e, le-max_left (largest_of (errs x)) (largest_of (flat_map errs xs))))
      (flat-beyond z (suc k) xs (omega (arith, e, le-max_right (largest_of (errs x)) (largest_of (flat_map errs xs)))))
    where
      by : (t : Bool) → is_among z (errs x) ≡ t → largest_of (errs x) < z → first_from (suc k) (λ x. is_among z (errs x)) xs ≡ 0 →
          cond t k (first_from (suc k) (λ x. is_among z (errs x)) xs) ≡ 0
      by true q l g = absurd (omega (arith, among-most z (errs x) q))
      by false q l g = g

-- ---- a total

pub total-more : {X : Type 0} (f : X → ℕ) (xs : List X) (x : X) → total_of f (xs ++ x ∷ []) ≡ total_of f xs + f x
unfolding total_of
total-more f [] x = omega arith
total-more f (y ∷ ys) x = omega (arith, total-more f ys x)
