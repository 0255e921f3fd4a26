-- What `tagged_at` comes to, case by case.
use Prim.Native.Nat.{ℕ, ◌+◌, ◌-◌, ◌<◌, ◌≤◌}
use mathlib.Core.Path.{◌≡◌, refl, sym, ap, ◌∙◌}
use mathlib.Core.Bool.{true, false, cond, false≢true}
use mathlib.Core.List.{List, [], ◌∷◌}
use native.Mathlib.Omega.{arith}
use borrow.Author.Tests.{eq-eqb, ne_eqb}
use lib.Dec.{eqb}
use lib.ListN.{length, get_or, take, drop, length-drop}
use Rattle.text.specs.laws.Put.{rest_all}
use Rattle.job.specs.inner.FieldScan.{tagged_from, tagged_at}

short : (tag : ℕ) (bs : List ℕ) → length bs ≤ 1 → false ≡ tagged_from tag bs
unfolding tagged_from
short tag [] h = refl
short tag (b ∷ []) h = refl
short tag (b ∷ d ∷ bs) h = absurd (omega arith)

room : (tag : ℕ) (bs : List ℕ) → tagged_from tag bs ≡ true → 2 ≤ length bs
unfolding tagged_from
room tag [] e = absurd (false≢true e)
room tag (b ∷ []) e = absurd (false≢true e)
room tag (b ∷ d ∷ bs) e = omega arith

two : (tag : ℕ) (bs : List ℕ) → 2 ≤ length bs → tagged_from tag bs ≡ cond (eqb (get_or bs 0 0) tag) (eqb (get_or bs 1 0) 9) false
unfolding tagged_from
two tag [] h = absurd (omega arith)
two tag (b ∷ []) h = absurd (omega arith)
two tag (b ∷ d ∷ bs) h = refl

pub tagged-room : (text : List ℕ) (at tag : ℕ) → tagged_at text at tag ≡ true → at + 1 < length text
unfolding tagged_at
tagged-room text at tag e = omega (arith, simp length-drop at (room tag (drop at text) e))

pub tagged-beyond : (text : List ℕ) (at tag : ℕ) → length text ≤ at → false ≡ tagged_at text at tag
unfolding tagged_at
tagged-beyond text at tag h = short tag (drop at text) (simp length-drop (omega arith))

-- The text from the place on, as a slice of it.
module _ (text : List ℕ) (at tag : ℕ) (rest : List ℕ) (r : rest ≡ take (length text - at) (drop at text)) where
  from : rest ≡ drop at text
  from = r ∙ rest_all at text

  pub tagged-short : length rest < 2 → false ≡ tagged_at text at tag
  unfolding tagged_at
  tagged-short h = short tag rest (omega arith) ∙ ap (tagged_from tag) from

  module _ (h : 2 ≤ length rest) where
    pub tagged-same : get_or rest 0 0 ≡ tag → eqb (get_or rest 1 0) 9 ≡ tagged_at text at tag
    unfolding tagged_at
    tagged-same e = sym (ap (tagged_from tag) (sym from) ∙ two tag rest h ∙ simp (eq-eqb _ _ e))

    pub tagged-other : (get_or rest 0 0 ≡ tag → ⊥) → false ≡ tagged_at text at tag
    unfolding tagged_at
    tagged-other e = sym (ap (tagged_from tag) (sym from) ∙ two tag rest h ∙ simp (ne_eqb _ _ e))
