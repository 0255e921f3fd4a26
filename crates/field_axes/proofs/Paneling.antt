-- The numbers of a panel at a position, or the refusal.
use Rattle.std.proofs.Common.{ℕ, ◌<◌, ◌≤◌, ◌≡◌, sym, ◌∙◌, List, [], ◌∷◌, Result, Ok, Err, ℤ, arith, length}
use Rattle.panel.specs.declared.Panel.{Panel}
use Rattle.refusal.specs.Refusal.{numbered, number_of}
use Rattle.refusal.specs.declared.Refusal.{Refusal}
use Rattle.refusal.specs.laws.Judged.{judged-numbered}
use Rattle.refusal.specs.laws.Numbers.{number_of-high, number_of-low, numbered-number_of}
use Rattle.text.specs.Put.{Put}
use Rattle.text.specs.Written.{or_short}
use Rattle.text.specs.laws.Written.{buffer-stays, none_left, refused-first, short-last}
use Rattle.field_axes.specs.Panels.{panel_numbers, refusal_at}
use Rattle.field_axes.specs.inner.Given.{Gives}
use Rattle.field_axes.proofs.Answered.{given}
use Rattle.field_axes.proofs.Numbers.{or_short-known}

known-at : (o : Result Panel Refusal) → refusal_at o ≤ 16
unfolding refusal_at
known-at (Ok x) = omega arith
known-at (Err r) = number_of-high r

pub known : (o : Result Panel Refusal) (size : ℕ) → or_short (refusal_at o) 3 size ≤ 16
known o size = or_short-known (refusal_at o) 3 size (known-at o)

pub few : (o : Result Panel Refusal) → length (panel_numbers o) ≤ 3
unfolding panel_numbers
few (Ok x) = omega arith
few (Err r) = omega arith

abbrev At : Result Panel Refusal → List ℤ → List ℤ → Result ℕ Refusal → Type 0
At o entry exit r = Gives (or_short (refusal_at o) 3 (length entry)) (panel_numbers o) entry exit r

stays : (o : Result Panel Refusal) (entry : List ℤ) (k : ℕ) → or_short (refusal_at o) 3 (length entry) ≡ k → (k ≡ 0 → ⊥) →
    At o entry entry (Err (numbered k))
stays o entry k e f = record { answer = judged-numbered _ _ k (sym e) f; buffer = buffer-stays _ _ entry k (sym e) f }

pub panel-refused : (o : Result Panel Refusal) (entry : List ℤ) (r : Refusal) → o ≡ Err r → At o entry entry (Err r)
unfolding refusal_at
panel-refused o entry r e =
    let at : refusal_at o ≡ number_of r = rw e in
    let some : number_of r ≡ 0 → ⊥ = λ z. omega (arith, number_of-low r) in
    let first = refused-first (refusal_at o) 3 (length entry) (λ z. some (sym at ∙ z)) ∙ at in
    rw (numbered-number_of r) at (stays o entry (number_of r) first some)

module _ (o : Result Panel Refusal) (entry : List ℤ) (x : Panel) (e : o ≡ Ok x) where
  taken : refusal_at o ≡ 0
  unfolding refusal_at
  taken = rw e

  pub panel-short : length entry < 3 → At o entry entry (Err (numbered 12))
  panel-short h = stays o entry 12 (short-last (refusal_at o) 3 (length entry) taken h) (λ z. omega arith)

  pub panel-written : 3 ≤ length entry → {exit : List ℤ} {r : ℕ} → Put (x.a11 ∷ x.a12 ∷ x.a22 ∷ []) 0 entry exit r → At o entry exit (Ok r)
  unfolding panel_numbers
  panel-written h {exit} {r} p =
      let q : Put (panel_numbers o) 0 entry exit r = rw e p in
      given _ _ entry (none_left (refusal_at o) 3 (length entry) taken h) q
