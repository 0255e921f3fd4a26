-- What is read of an input, and whether more of it is left.
use Rattle.std.proofs.Common.{ℕ, ◌+◌, ◌<◌, ◌≤◌, ◌≡◌, refl, sym, ap, ◌∙◌, Bool, true, false, List, Option, Some, None, IfSome, arith, leb}
use Rattle.std.proofs.Common.{length, take, length-append, length-take-le}
use Rattle.std.proofs.lemmas.Bool.{ltb_from_iff}
use Rattle.std.specs.Io.KnownBytes.{Consumes}
use Rattle.std.specs.Prelude.{IsTrue, ◌↔◌}
use borrow.Author.Tests.{le-ltb, leb-false, leb-true}
use Rattle.play.specs.Text.{FrontOf, input_limit}

module _ (buf : List ℕ) (n most : ℕ) (full : length buf ≡ 65536) (all : most ≡ 65536) (within : n ≤ length buf) where
  read : length (take n buf) ≡ n
  read = length-take-le n buf within

  -- there is room for more than the input has
  ends-within : (xs : List ℕ) → take n buf ≡ take 65536 xs → (n ≡ 65536 → ⊥) → length xs ≤ 65536
  ends-within xs b f = by (leb 65536 (length xs)) refl
    where
      by : (t : Bool) → leb 65536 (length xs) ≡ t → length xs ≤ 65536
      by true q = absurd (f (sym read ∙ ap length b ∙ length-take-le 65536 xs (leb-true 65536 (length xs) q)))
      by false q = omega (arith, leb-false 65536 (length xs) q)

  pub ends-early : (old : Option (List ℕ)) → IfSome old (λ xs. take n buf ≡ take most xs) → (n ≡ 65536 → ⊥) → (left : Bool) → left ≡ false →
      IfSome old (λ xs. FrontOf xs (take n buf) left)
  unfolding input_limit
  ends-early None b f left e = tt
  ends-early (Some xs) b f left e = let c = rw all at b in (c, e ∙ sym (le-ltb 65536 (length xs) (ends-within xs c f)))

  -- the buffer is full, and what comes after it tells whether input is left
  pub fills : (old new : Option (List ℕ)) → IfSome old (λ xs. take n buf ≡ take most xs) → Consumes old new (take n buf) → n ≡ 65536 →
      (left : Bool) → IfSome new (λ ys. IsTrue left ↔ (0 < length ys)) →
      IfSome old (λ xs. FrontOf xs (take n buf) left)
  unfolding input_limit
  fills None new b c q left h = tt
  fills (Some xs) None b c q left h = absurd c
  fills (Some xs) (Some ys) b c q left h =
      let size : length xs ≡ n + length ys = rw (c, length-append, read) in
      (rw all at b, ltb_from_iff ((λ t. let l = h.0 t in omega arith), λ l. h.1 (omega arith)))
