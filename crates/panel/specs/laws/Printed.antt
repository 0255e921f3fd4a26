-- Laws of what the program prints: by the number that its argument is, and by what the writer of the text answers.
use Prim.Native.Nat.{ℕ, zero, suc, ◌≤◌}
use Rattle.std.proofs.Math.Path.{◌≡◌, refl, sym}
use Rattle.std.proofs.Common.{◌∙◌, zero-add, arith, length-append}
use Rattle.std.specs.Prelude.{Bool, List, [], ◌∷◌, Some, None, Result, Ok, Err, ℤ, pos, nat_abs}
use Rattle.std.proofs.Math.Bool.{true, false}
use borrow.Author.Tests.{leb-true, ne_eqb}
use Rattle.std.proofs.Math.Dec.{leb}
use Rattle.std.proofs.Math.ListN.{length}
use Rattle.call_text.specs.Numbers.{signed_of}
use Rattle.text.specs.Line.{further, number_line, numbers}
use Rattle.text.specs.Put.{Put}
use Rattle.text.specs.Written.{Writes, lent_after, or_short, written_of}
use Rattle.refusal.specs.declared.Refusal.{Refusal}
use Rattle.refusal.specs.Refusal.{judged, numbered}
use Rattle.text.specs.laws.Written.{refusal-tells}
use Rattle.text.specs.laws.Digits.{length-number}
use Rattle.text.specs.laws.Numbers.{length-number-line}
use Rattle.panel.specs.Printed.{printed_for_size, panels_printed, text_or}
use Rattle.panel.specs.Refusal.{size_refusal}
use Rattle.panel.specs.Text.{panels_text}

-- ---- the argument

module _ (f : List ℕ) where
  pub no_number : signed_of f ≡ None → panels_printed f ≡ number_line 63 []
  unfolding panels_printed printed_for_size
  no_number e = rw e

  pub a-number : (b : ℤ) → signed_of f ≡ Some b → panels_printed f ≡ text_or (size_refusal b) (panels_text (nat_abs b))
  unfolding panels_printed printed_for_size
  a-number b e = rw e

-- ---- the writer's answer

module _ (text entry exit : List ℕ) where
  pub whole-printed : (refusal : ℕ) (z : Result ℕ Refusal) → Writes refusal text entry exit z → (r : ℕ) → z ≡ Ok r →
      Put (text_or refusal text) 0 entry exit r
  unfolding or_short written_of judged lent_after text_or
  whole-printed zero z w r e = by (leb (length text) (length entry)) refl
    where
      by : (t : Bool) → leb (length text) (length entry) ≡ t → Put text 0 entry exit r
      by true q =
          let a = rw q at w.answer in
          let k : r ≡ length text = cc in
          record {
            leaves = rw q at w.buffer;
            answer = k ∙ sym (zero-add (length text));
            within = omega (arith, k, leb-true (length text) (length entry) q);
          }
      by false q = let a = rw q at w.answer in absurd (let x : ◌≡◌ {A = ℕ} 0 1 = cc in omega arith)
  whole-printed (suc n) z w r e =
      let a = simp (ne_eqb (suc n) 0 (λ h. omega arith)) at w.answer in
      absurd (let x : ◌≡◌ {A = ℕ} 0 1 = cc in omega arith)

  pub refusal-printed : (refusal : ℕ) (z : Result ℕ Refusal) → (refusal ≡ 0 → length text ≤ length entry) → Writes refusal text entry exit z →
      (k : Refusal) → z ≡ Err k →
      (exit ≡ entry) × (text_or refusal text ≡ number_line 88 (pos refusal ∷ [])) × (k ≡ numbered refusal) × (refusal ≡ 0 → ⊥)
  unfolding text_or
  refusal-printed zero z h w k e = absurd ((refusal-tells 0 text entry w h k e).1 refl)
  refusal-printed (suc n) z h w k e = let told = refusal-tells (suc n) text entry w h k e in (told.2, refl, told.0, told.1)

-- the line of a refusal is short
pub refusal-few : (k : ℕ) → k ≤ 2 → length (number_line 88 (pos k ∷ [])) ≤ 23
unfolding numbers further
refusal-few k h = rw length-number-line (simp length-append (omega (arith, length-number (pos k) (omega arith))))
