-- What is judged by a number, and what it says of the number.
use Rattle.std.specs.Prelude.{◌≡◌, refl, Bool, true, false, cond, ℕ, eqb, Ok, Err, is_ok}
use Rattle.std.proofs.Common.{sym, ap, eq-eqb, ne_eqb, eqb-true, true≢false}
use Rattle.refusal.specs.Refusal.{judged, numbered}
use Rattle.refusal.specs.declared.Refusal.{Refusal}

module _ {X : Type 0} (number : ℕ) (x : X) where
  pub judged-taken : number ≡ 0 → Ok x ≡ judged number x
  unfolding judged
  judged-taken e = rw (eq-eqb number 0 e)

  pub judged-numbered : (k : ℕ) → k ≡ number → (k ≡ 0 → ⊥) → Err (numbered k) ≡ judged number x
  unfolding judged
  judged-numbered k e f = rw (← e, ne_eqb k 0 f)

  pub judged-ok : (y : X) → Ok y ≡ judged number x → (number ≡ 0) × (y ≡ x)
  unfolding judged
  judged-ok y = by (eqb number 0) refl
    where
      by : (t : Bool) → eqb number 0 ≡ t → Ok y ≡ cond t (Ok x) (Err (numbered number)) → (number ≡ 0) × (y ≡ x)
      by true z e = (eqb-true number 0 z, cc)
      by false z e = absurd (true≢false (ap is_ok e))

  module _ (refusal : Refusal) where
    pub judged-err : Err refusal ≡ judged number x → (eqb number 0 ≡ false) × (refusal ≡ numbered number)
    unfolding judged
    judged-err = by (eqb number 0) refl
      where
        by : (t : Bool) → eqb number 0 ≡ t → Err refusal ≡ cond t (Ok x) (Err (numbered number)) →
            (eqb number 0 ≡ false) × (refusal ≡ numbered number)
        by true z e = absurd (true≢false (sym (ap is_ok e)))
        by false z e = (z, cc)

    -- refused alike, whatever would be answered
    pub judged-alike : {Y : Type 0} (y : Y) → Err refusal ≡ judged number x → Err refusal ≡ judged number y
    unfolding judged
    judged-alike y e = let f = judged-err e in rw (f.0, ← f.1)
