-- Laws of a padded list: its length, what stands at each place, its front, what storing after it makes, and what taking elements out leaves.
use Rattle.std.specs.Prelude.{◌≡◌, refl, List, [], ◌∷◌, ◌++◌, ℕ, zero, suc, ◌+◌, ◌-◌, ◌≤◌, get_or, take, drop}
use Rattle.std.proofs.Common.{sym, ap, ◌∙◌, append_assoc, arith}
use Rattle.std.proofs.Math.ListN.{length, replicate, length-append, replicate-append-replicate}
use Rattle.std.proofs.lemmas.List.{drop-replicate, length-replicate}
use Rattle.std.proofs.lemmas.List.Edits.{sets}
use Rattle.std.proofs.Math.Seq.{sets-eq, take-append_seam, drop-append-add, drop-append_seam}
use Rattle.integer.specs.Padded.{padded}
use Rattle.integer.specs.laws.Tabulate.{get_d-repeated}

module _ {A : Type 0} where
  pub length-padded : (m : ℕ) (d : A) (xs : List A) → length xs ≤ m → length (padded m d xs) ≡ m
  unfolding padded
  length-padded m d xs h = rw (length-append, length-replicate) (omega arith)

  -- no shorter than the list
  pub padded-size : (m : ℕ) (d : A) (xs : List A) → length xs ≤ length (padded m d xs)
  unfolding padded
  padded-size m d xs = rw length-append (omega arith)

  pub after_list : (m : ℕ) (d : A) (xs : List A) (p : ℕ) → get_or (xs ++ replicate m d) p d ≡ get_or xs p d
  after_list m d [] p = get_d-repeated m p d
  after_list m d (x ∷ xs) zero = refl
  after_list m d (x ∷ xs) (suc p) = after_list m d xs p

  -- the list's elements, and d past its end
  pub padded-at : (m : ℕ) (d : A) (xs : List A) (p : ℕ) → get_or (padded m d xs) p d ≡ get_or xs p d
  unfolding padded
  padded-at m d xs p = after_list (m - length xs) d xs p

  pub padded-take : (m : ℕ) (d : A) (xs : List A) → take (length xs) (padded m d xs) ≡ xs
  unfolding padded
  padded-take m d xs = take-append_seam xs (replicate (m - length xs) d)

  -- elements stored after the list
  pub padded-more : (m : ℕ) (d : A) (xs ys : List A) → length xs + length ys ≤ m →
      sets (padded m d xs) (length xs) ys ≡ padded m d (xs ++ ys)
  unfolding padded
  padded-more m d xs ys h =
      let e : (m - length xs) - length ys ≡ m - length (xs ++ ys) = simp length-append (omega arith) in
      sets-eq ys (xs ++ replicate (m - length xs) d) (length xs) (simp (length-append, length-replicate) (omega arith))
      ∙ simp (take-append_seam, drop-append-add, drop-replicate, e, append_assoc)

  -- elements taken out of the middle: those after them move up, and d follows
  pub padded-closed : (m : ℕ) (d : A) (xs ws ys : List A) → length xs + (length ws + length ys) ≤ m →
      take (length xs) (padded m d (xs ++ (ws ++ ys))) ++ (drop (length xs + length ws) (padded m d (xs ++ (ws ++ ys))) ++ replicate (length ws) d)
      ≡ padded m d (xs ++ ys)
  unfolding padded
  padded-closed m d xs ws ys h =
      let e : (m - length (xs ++ (ws ++ ys))) + length ws ≡ m - length (xs ++ ys) = simp length-append (omega arith) in
      simp (append_assoc, take-append_seam, drop-append-add, drop-append_seam, replicate-append-replicate, e)
