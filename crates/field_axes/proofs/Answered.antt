-- The answer of what is written or refused.
use Rattle.std.proofs.Common.{ℕ, ◌<◌, ◌≤◌, ◌^◌, ◌≡◌, refl, sym, ap, ◌∙◌, Bool, true, false, cond, List, Result, Ok, Err, IfOk, pos}
use Rattle.std.proofs.Common.{neg_ℤ, arith, eqb, length}
use Rattle.std.proofs.lemmas.Bool.{eqb-false}
use Rattle.refusal.specs.Refusal.{judged, numbered}
use Rattle.refusal.specs.laws.Numbers.{number_of-numbered}
use Rattle.refusal.specs.laws.Judged.{judged-alike, judged-err, judged-ok, judged-taken}
use Rattle.refusal.specs.declared.Refusal.{Refusal}
use Rattle.text.specs.Put.{Put}
use Rattle.text.specs.Written.{Writes, or_short, written_of}
use Rattle.text.specs.laws.Put.{front_length}
use Rattle.text.specs.laws.Written.{buffer-stays, buffer-written, taken}
use Rattle.field_axes.specs.Answer.{answered, count_or_refusal}
use Rattle.field_axes.specs.inner.Given.{Gives}
use Rattle.field_axes.proofs.Numbers.{or_short-known}

-- ---- what a test answers

-- a refusal before the others
pub first-refused : {X Y : Type 0} (x : X) (first later : ℕ) (y : Y) (r : Refusal) → Err r ≡ judged first x →
    Err r ≡ judged (cond (eqb first 0) later first) y
first-refused x first later y r e = rw (judged-err first x r e).0 (judged-alike first x r y e)

-- ---- what is given

module _ {X : Type 0} (refusal : ℕ) (written entry : List X) where
  pub given : {exit : List X} {r : ℕ} → refusal ≡ 0 → Put written 0 entry exit r → Gives refusal written entry exit (Ok r)
  given e p = record { answer = ap Ok (front_length p) ∙ judged-taken refusal (length written) e; buffer = buffer-written refusal written entry e p }

  pub refused : {Y : Type 0} (x : Y) (r : Refusal) → Err r ≡ judged refusal x → Gives refusal written entry entry (Err r)
  refused x r e =
      record {
        answer = judged-alike refusal x r (length written) e;
        buffer = buffer-stays refusal written entry refusal refl (eqb-false refusal 0 (judged-err refusal x r e).0);
      }

  pub as_number : {exit : List X} {r : Result ℕ Refusal} → refusal ≤ 16 → Gives refusal written entry exit r →
      answered r ≡ count_or_refusal refusal written
  unfolding answered judged count_or_refusal
  as_number known g = rw g.answer (by (eqb refusal 0) refl)
    where
      by : (t : Bool) → eqb refusal 0 ≡ t →
          answered (cond t (Ok (length written)) (Err (numbered refusal))) ≡ cond t (pos (length written)) (neg_ℤ (pos refusal))
      by true q = refl
      by false q = ap (λ k. neg_ℤ (pos k)) (number_of-numbered refusal (omega (arith, eqb-false refusal 0 q)) known)

-- ---- how many that is

pub each-ok : {E : Type 0} (r : Result ℕ E) → ((k : ℕ) → r ≡ Ok k → k < 2 ^ 63) → IfOk r (λ k. k < 2 ^ 63)
each-ok (Ok k) h = h k refl
each-ok (Err e) h = tt

pub given-fits : {X : Type 0} (refusal : ℕ) (written entry exit : List X) (r : Result ℕ Refusal) → Gives refusal written entry exit r →
    (refusal ≡ 0 → length written < 2 ^ 63) → IfOk r (λ k. k < 2 ^ 63)
given-fits refusal written entry exit r g h =
    each-ok r (λ k e. let t = judged-ok refusal (length written) k (sym e ∙ g.answer) in rw t.1 (h t.0))

-- ---- a text that a writer writes, with room for it

module _ (refusal : ℕ) (text entry exit : List ℕ) (r : Result ℕ Refusal) (w : Writes refusal text entry exit r) where
  gives : Gives (or_short refusal (length text) (length entry)) text entry exit r
  unfolding written_of
  gives = record { answer = w.answer; buffer = w.buffer }

  pub fits : length entry < 2 ^ 63 → IfOk r (λ k. k < 2 ^ 63)
  fits h =
      given-fits _ text entry exit r gives
      (λ e. let t = taken refusal (length text) (length entry) e in omega (arith, t.1))

  pub number : refusal ≤ 16 → answered r ≡ count_or_refusal (or_short refusal (length text) (length entry)) text
  number known = as_number _ text entry (or_short-known refusal (length text) (length entry) known) gives
