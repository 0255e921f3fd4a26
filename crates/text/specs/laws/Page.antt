-- Laws of a text in an array: the text gives the array back, and what a writer put at the front of zeros is one.
use Rattle.std.specs.Prelude.{ℕ, ◌≡◌, List, ◌++◌, drop, length, replicate, take}
use Rattle.std.proofs.Common.{◌∙◌, arith, length-take-le, take-append-drop}
use Rattle.std.proofs.lemmas.List.{length-replicate}
use Rattle.text.specs.Page.{Filled}
use Rattle.text.specs.Put.{Put}
use Rattle.text.specs.laws.Put.{rest-stays, same_size, written}

pub page_back : (n : ℕ) (bytes : List ℕ) (len : ℕ) → Filled n bytes len →
    (take len bytes ++ drop (length (take len bytes)) (replicate n 0) ≡ bytes) × (length (take len bytes) ≡ len)
page_back n bytes len h =
    let s : length (take len bytes) ≡ len = length-take-le len bytes (omega (arith, h.full, h.fits)) in
    (rw (s, ← h.rest) (take-append-drop len bytes), s)

module _ (n : ℕ) {t x : List ℕ} {r : ℕ} (p : Put t 0 (replicate n 0) x r) where
  pub filled : Filled n x r
  filled =
      let z : length (replicate n 0) ≡ n = length-replicate n 0 in
      record { full = same_size p ∙ z; fits = omega (arith, p.within, z); rest = rest-stays p }

  pub put-text : take r x ≡ t
  put-text = written p
