-- A text and its parts: what is joined is split again, and what is split is joined again.
use Rattle.std.specs.Prelude.{ℕ, ◌≡◌, Bool, cond}
use Rattle.std.proofs.Math.Path.{refl, ap}
use Rattle.std.proofs.Common.{◌∙◌}
use Rattle.std.proofs.Math.Bool.{true, false}
use mathlib.Core.List.{List, [], ◌∷◌, ◌++◌, tail, append-nil, nil≢cons}
use borrow.Author.Tests.{eq-eqb, ne_eqb, eqb-true}
use Rattle.std.proofs.Math.Dec.{eqb}
use Rattle.text.specs.Parts.{onto, split}

-- No byte of it is s.
abbrev pub Free : ℕ → List ℕ → Type 0
Free s [] = Unit
Free s (b ∷ bs) = (b ≡ s → ⊥) × Free s bs

-- The same of each part
abbrev pub EachFree : ℕ → List (List ℕ) → Type 0
EachFree s [] = Unit
EachFree s (part ∷ parts) = Free s part × EachFree s parts

-- Parts that follow another: each has s before it.
abbrev pub followed : ℕ → List (List ℕ) → List ℕ
followed s [] = []
followed s (part ∷ parts) = (s ∷ part) ++ followed s parts

-- Parts with s between them
abbrev pub joined : ℕ → List (List ℕ) → List ℕ
joined s parts = tail (followed s parts)

pub free-append : (s : ℕ) (xs ys : List ℕ) → Free s xs → Free s ys → Free s (xs ++ ys)
free-append s [] ys p q = q
free-append s (x ∷ xs) ys p q = (p.0, free-append s xs ys p.1 q)

pub followed-free : (s t : ℕ) (parts : List (List ℕ)) → (t ≡ s → ⊥) → EachFree s parts → Free s (followed t parts)
followed-free s t [] h free = tt
followed-free s t (part ∷ parts) h free = (h, free-append s part (followed t parts) free.0 (followed-free s t parts h free.1))

module _ (s : ℕ) where
  -- ---- what is joined is split again

  pub split-free : (part : List ℕ) → Free s part → split s part ≡ part ∷ []
  unfolding split onto
  split-free [] free = refl
  split-free (b ∷ bs) free = simp (ne_eqb b s free.0, split-free bs free.1)

  pub split-part : (part rest : List ℕ) → Free s part → split s (part ++ (s ∷ rest)) ≡ part ∷ split s rest
  unfolding split onto
  split-part [] rest free = simp (eq-eqb s s refl)
  split-part (b ∷ bs) rest free = simp (ne_eqb b s free.0, split-part bs rest free.1)

  pub split-joined : (part : List ℕ) (parts : List (List ℕ)) → EachFree s (part ∷ parts) → split s (joined s (part ∷ parts)) ≡ part ∷ parts
  split-joined part [] free = ap (split s) (append-nil part) ∙ split-free part free.0
  split-joined part (next ∷ parts) free =
      split-part part (joined s (next ∷ parts)) free.0 ∙ ap (λ l. part ∷ l) (split-joined next parts free.1)

  -- ---- what is split is joined again

  followed-onto : (b : ℕ) (bs : List ℕ) (parts : List (List ℕ)) → followed s parts ≡ s ∷ bs → followed s (onto b parts) ≡ s ∷ b ∷ bs
  unfolding onto
  followed-onto b bs [] e = absurd (nil≢cons e)
  followed-onto b bs (part ∷ parts) e = ap (λ l. s ∷ b ∷ tail l) e

  followed-split : (text : List ℕ) → followed s (split s text) ≡ s ∷ text
  unfolding split
  followed-split [] = refl
  followed-split (b ∷ bs) = by (eqb b s) refl (followed-split bs)
    where
      by : (t : Bool) → eqb b s ≡ t → followed s (split s bs) ≡ s ∷ bs
          → followed s (cond t ([] ∷ split s bs) (onto b (split s bs))) ≡ s ∷ b ∷ bs
      by true t e = rw (e, eqb-true b s t)
      by false t e = followed-onto b bs (split s bs) e

  pub joined-split : (text : List ℕ) → joined s (split s text) ≡ text
  joined-split text = ap tail (followed-split text)
