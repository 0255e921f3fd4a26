-- One more thing that has numbers, as a job has errors: the largest of all, and the first thing that has it.
use Rattle.std.specs.Prelude.{ℕ, suc, ◌+◌, ◌-◌, ◌<◌, ◌≤◌, max, ◌≡◌, refl, true, length}
use Rattle.std.proofs.Common.{sym, ap, ◌∙◌}
use Rattle.std.proofs.Math.Bool.{true≢false}
use mathlib.Core.List.{List, [], ◌∷◌, ◌++◌, append-nil, flat_map}
use Rattle.std.proofs.Math.Decide.{dec_lt}
use Rattle.std.proofs.Math.Nat.{max-eq_left, max-eq_right}
use native.Mathlib.Omega.{arith}
use Rattle.season_report.specs.Lists.{first_from, is_among, largest_of}
use Rattle.season_report.specs.laws.Lists.{first_found, first-none, first_some, flat-among, flat-beyond, flat-found, flat-more}
use Rattle.season_report.specs.laws.Lists.{largest-among, largest-append}

module _ {X : Type 0} (errs : X → List ℕ) where
  abbrev pub top : List X → ℕ
  top xs = largest_of (flat_map errs xs)

  abbrev pub place_with : ℕ → List X → ℕ
  place_with z xs = first_from 1 (λ x. is_among z (errs x)) xs

  abbrev pub place : List X → ℕ
  place xs = place_with (top xs) xs

  -- what is found somewhere is among all
  somewhere : (xs : List X) (z : ℕ) → 0 < place_with z xs → is_among z (flat_map errs xs) ≡ true
  somewhere [] z h = unfold first_from in absurd (omega arith)
  somewhere (y ∷ ys) z h =
      let f = first_found (λ x. is_among z (errs x)) 1 (y ∷ ys) y h in
      flat-among errs z (y ∷ ys) (place_with z (y ∷ ys) - 1) y (omega (arith, f.within, f.from)) f.passes

  -- nothing has the largest only where there is no number at all
  pub none-empty : (xs : List X) → place xs ≡ 0 → flat_map errs xs ≡ []
  none-empty xs e = by (flat_map errs xs) refl
    where
      by : (l : List ℕ) → flat_map errs xs ≡ l → flat_map errs xs ≡ []
      by [] q = q
      by (y ∷ ys) q =
          absurd (omega (arith, flat-found errs (top xs) 1 xs (omega arith) (rw q (largest-among y ys)), e))

  module _ (xs : List X) (x : X) where
    -- it has none
    module _ (empty : errs x ≡ []) where
      pub top-same : top (xs ++ x ∷ []) ≡ top xs
      top-same = ap largest_of (flat-more errs xs x ∙ ap (λ l. flat_map errs xs ++ l) empty ∙ append-nil (flat_map errs xs))

      nothing-last : (k z : ℕ) → first_from k (λ x. is_among z (errs x)) (x ∷ []) ≡ 0
      unfolding first_from is_among
      nothing-last k z = rw empty

      pub place_same : place (xs ++ x ∷ []) ≡ place xs
      place_same = ap (λ z. place_with z (xs ++ x ∷ [])) top-same ∙ by (dec_lt 0 (place xs))
        where
          by : Dec (0 < place xs) → place_with (top xs) (xs ++ x ∷ []) ≡ place xs
          by (yes h) = first_some (λ x. is_among (top xs) (errs x)) 1 xs (x ∷ []) h
          by (no h) =
              let e : place xs ≡ 0 = omega arith in
              first-none (λ x. is_among (top xs) (errs x)) 1 xs (x ∷ []) (omega arith) e ∙ nothing-last (1 + length xs) (top xs) ∙ sym e

    -- it has some, y and ys
    module _ (y : ℕ) (ys : List ℕ) (has : errs x ≡ y ∷ ys) where
      top-more : top (xs ++ x ∷ []) ≡ max (top xs) (largest_of (y ∷ ys))
      top-more = ap largest_of (flat-more errs xs x) ∙ largest-append (flat_map errs xs) (errs x) ∙ ap (λ l. max (top xs) (largest_of l)) has

      at-end : (k : ℕ) → first_from k (λ x. is_among (largest_of (y ∷ ys)) (errs x)) (x ∷ []) ≡ k
      unfolding first_from
      at-end k = rw (has, largest-among y ys)

      -- where nothing has it before, it is found at the end
      found : place_with (largest_of (y ∷ ys)) xs ≡ 0 → place_with (largest_of (y ∷ ys)) (xs ++ x ∷ []) ≡ suc (length xs)
      found e = first-none (λ x. is_among (largest_of (y ∷ ys)) (errs x)) 1 xs (x ∷ []) (omega arith) e ∙ at-end (1 + length xs) ∙ omega arith

      -- larger than all before it
      module _ (larger : top xs < largest_of (y ∷ ys)) where
        pub top-larger : top (xs ++ x ∷ []) ≡ largest_of (y ∷ ys)
        top-larger = top-more ∙ max-eq_right (omega arith)

        pub place-larger : place (xs ++ x ∷ []) ≡ suc (length xs)
        place-larger = ap (λ z. place_with z (xs ++ x ∷ [])) top-larger ∙ found (flat-beyond errs (largest_of (y ∷ ys)) 1 xs larger)

      -- the first that has any
      module _ (none : place xs ≡ 0) where
        nothing-before : flat_map errs xs ≡ []
        nothing-before = none-empty xs none

        pub top-first : top (xs ++ x ∷ []) ≡ largest_of (y ∷ ys)
        top-first = top-more ∙ rw nothing-before (unfold largest_of in max-eq_right (omega arith))

        pub place-first : place (xs ++ x ∷ []) ≡ suc (length xs)
        place-first =
            let z = largest_of (y ∷ ys) in
            ap (λ z. place_with z (xs ++ x ∷ [])) top-first ∙ found (nowhere z (dec_lt 0 (place_with z xs)))
          where
            nowhere : (z : ℕ) → Dec (0 < place_with z xs) → place_with z xs ≡ 0
            nowhere z (yes h) = absurd (unfold is_among in true≢false (sym (rw nothing-before at (somewhere xs z h))))
            nowhere z (no h) = omega arith

      -- not larger than one before it
      module _ (some : 1 ≤ place xs) (not-larger : largest_of (y ∷ ys) ≤ top xs) where
        pub top-stays : top (xs ++ x ∷ []) ≡ top xs
        top-stays = top-more ∙ max-eq_left not-larger

        pub place-stays : place (xs ++ x ∷ []) ≡ place xs
        place-stays = ap (λ z. place_with z (xs ++ x ∷ [])) top-stays ∙ first_some (λ x. is_among (top xs) (errs x)) 1 xs (x ∷ []) some
