-- One axis more: the largest error of a record, and the lowest axis that has it.
use Rattle.std.specs.Prelude.{ℕ, suc, ◌<◌, ◌≤◌, ◌≡◌, refl, Bool, true, false, cond, eqb, length, Option, None, Some}
use Rattle.std.proofs.Common.{sym, ap, ◌∙◌, arith, eq-eqb, le-ltb, lt-ltb}
use mathlib.Core.List.{List, [], ◌∷◌, ◌++◌, flat_map}
use Rattle.std.proofs.Math.Decide.{dec_lt}
use Rattle.std.proofs.Math.Nat.{max-eq_left}
use Rattle.season_report.specs.Figures.{lowest_axis}
use Rattle.season_report.specs.Lists.{first_from, is_among, largest_of}
use Rattle.season_report.specs.Season.{larger, overtakes}
use Rattle.season_report.specs.declared.LargestError.{LargestError}
use Rattle.season_report.specs.laws.Lists.{among-found, largest-among}
use Rattle.season_report.specs.laws.Step as step

abbrev single : ℕ → List ℕ
single x = x ∷ []

flat-single : (xs : List ℕ) → flat_map single xs ≡ xs
unfolding flat_map
flat-single [] = refl
flat-single (x ∷ xs) = ap (λ l. x ∷ l) (flat-single xs)

first-single : (z k : ℕ) (xs : List ℕ) → first_from k (λ x. is_among z (single x)) xs ≡ first_from k (λ x. eqb x z) xs
unfolding first_from is_among
first-single z k [] = refl
first-single z k (x ∷ xs) = by (eqb x z) (first-single z (suc k) xs)
  where
    by : (t : Bool) → first_from (suc k) (λ x. cond (eqb x z) true false) xs ≡ first_from (suc k) (λ x. eqb x z) xs →
        cond (cond t true false) k (first_from (suc k) (λ x. cond (eqb x z) true false) xs) ≡ cond t k (first_from (suc k) (λ x. eqb x z) xs)
    by true h = refl
    by false h = h

top-is : (xs : List ℕ) → step.top single xs ≡ largest_of xs
top-is xs = ap largest_of (flat-single xs)

place_is : (xs : List ℕ) → step.place single xs ≡ lowest_axis (largest_of xs) xs
unfolding lowest_axis
place_is xs = ap (λ z. step.place_with single z xs) (top-is xs) ∙ first-single (largest_of xs) 1 xs

largest-single : (x : ℕ) → largest_of (x ∷ []) ≡ x
unfolding largest_of
largest-single x = max-eq_left (omega arith)

lowest-single : (x : ℕ) → lowest_axis x (x ∷ []) ≡ 1
unfolding lowest_axis first_from
lowest-single x = rw (eq-eqb x x refl)

-- one axis more, whose error is larger than those before it, or not
pub record NextAxis (xs : List ℕ) (x largest lowest : ℕ) : Type 0 where
  pub error : largest_of (xs ++ x ∷ []) ≡ largest
  pub axis : lowest_axis (largest_of (xs ++ x ∷ [])) (xs ++ x ∷ []) ≡ lowest

module _ (y : ℕ) (ys : List ℕ) (x : ℕ) where
  abbrev before : List ℕ
  before = y ∷ ys

  some : 1 ≤ step.place single before
  unfolding lowest_axis
  some = omega (arith, place_is before, among-found (largest_of before) 1 before (omega arith) (largest-among y ys))

  goes : largest_of before < x → NextAxis before x x (suc (length before))
  goes l =
      let larger : step.top single before < largest_of (x ∷ []) = omega (arith, top-is before, largest-single x) in
      record {
        error = sym (top-is (before ++ x ∷ [])) ∙ step.top-larger single before x x [] refl larger ∙ largest-single x;
        axis = sym (place_is (before ++ x ∷ [])) ∙ step.place-larger single before x x [] refl larger;
      }

  keeps : x ≤ largest_of before → NextAxis before x (largest_of before) (lowest_axis (largest_of before) before)
  keeps h =
      let most : largest_of (x ∷ []) ≤ step.top single before = omega (arith, top-is before, largest-single x) in
      record {
        error = sym (top-is (before ++ x ∷ [])) ∙ step.top-stays single before x x [] refl some most ∙ top-is before;
        axis = sym (place_is (before ++ x ∷ [])) ∙ step.place-stays single before x x [] refl some most ∙ place_is before;
      }

-- the largest so far, and an error of this job and this axis after it
module _ (job : ℕ) where
  abbrev pub found : ℕ → ℕ → LargestError
  found error axis = record { error = error; job = job; axis = axis }

  abbrev pub one_more : Option LargestError → ℕ → ℕ → Option LargestError
  one_more l error axis = cond (overtakes l error) (Some (found error axis)) l

  -- two errors after another: the second is larger than the first, or not
  module _ (m a x b : ℕ) where
    second : (l : Option LargestError) → m < x → one_more l x b ≡ one_more (one_more l m a) x b
    unfolding overtakes
    second None h = rw (lt-ltb m x h)
    second (Some l) h = by (dec_lt l.error m)
      where
        by : Dec (l.error < m) → one_more (Some l) x b ≡ one_more (one_more (Some l) m a) x b
        by (yes q) = let r : l.error < x = omega arith in rw (lt-ltb l.error m q, lt-ltb m x h, lt-ltb l.error x r)
        by (no q) = let r : m ≤ l.error = omega arith in rw (le-ltb l.error m r)

    first : (l : Option LargestError) → x ≤ m → one_more l m a ≡ one_more (one_more l m a) x b
    unfolding overtakes
    first None h = rw (le-ltb m x h)
    first (Some l) h = by (dec_lt l.error m)
      where
        by : Dec (l.error < m) → one_more (Some l) m a ≡ one_more (one_more (Some l) m a) x b
        by (yes q) = rw (lt-ltb l.error m q, le-ltb m x h)
        by (no q) =
            let r : m ≤ l.error = omega arith in
            let t : x ≤ l.error = omega arith in
            rw (le-ltb l.error m r, le-ltb l.error x t)

  -- the errors of a job, one after another
  pub larger-more : (l : Option LargestError) (xs : List ℕ) (x : ℕ) → larger l job (xs ++ x ∷ []) ≡ one_more (larger l job xs) x (suc (length xs))
  unfolding larger
  larger-more l [] x = rw (largest-single x, lowest-single x)
  larger-more l (y ∷ ys) x = by (dec_lt (largest_of (y ∷ ys)) x)
    where
      by : Dec (largest_of (y ∷ ys) < x) → larger l job (y ∷ ys ++ x ∷ []) ≡ one_more (larger l job (y ∷ ys)) x (suc (length (y ∷ ys)))
      by (yes h) = let n = goes y ys x h in rw (n.axis, n.error) (second (largest_of (y ∷ ys)) _ x _ l h)
      by (no h) =
          let k : x ≤ largest_of (y ∷ ys) = omega arith in
          let n = keeps y ys x k in
          rw (n.axis, n.error) (first (largest_of (y ∷ ys)) _ x _ l k)
