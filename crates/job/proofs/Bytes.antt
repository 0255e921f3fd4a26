-- What `digits_at` and `field_at` are at a byte of the text, case by case, and what a digit that may follow tells.
use Prim.Native.Nat.{ℕ, ◌+◌, ◌-◌, ◌*◌, ◌<◌, ◌≤◌}
use mathlib.Core.Path.{◌≡◌, refl, sym, ◌∙◌}
use mathlib.Core.Bool.{true, false}
use mathlib.Core.List.{List}
use native.Mathlib.Numerals.{add-one}
use borrow.Author.Tests.{leb-true, ltb-true, eq-eqb, ne_eqb}
use lib.Dec.{leb, ltb}
use lib.ListN.{length, get_or, drop_of_length-le}
use lib.Seq.{drop-cons}
use Rattle.std.specs.Char.{is_ascii_digit}
use Rattle.text.specs.inner.Numeral.{is_digit}
use Rattle.std.proofs.lemmas.Bool.{and_parts}
use Rattle.integer.specs.Within.{within}
use Rattle.integer.specs.laws.Within.{is_within}
use Rattle.job.specs.inner.FieldScan.{may_follow, digits_onward, digits_at, field_from, field_at}
use Rattle.job.specs.declared.field.Field.{Field}
use Rattle.job.specs.declared.field.Field.TheVariants.{Inner, Last, Bad}

-- What the reading comes to at a byte of the text, case by case. r is the reading of the whole, which has come to the place `at`.
module _ (r : Field) (text : List ℕ) (at v : ℕ) where
  pub digits-end : r ≡ digits_at text at v → length text ≤ at → Bad ≡ r
  unfolding digits_at digits_onward
  digits-end q h = sym (q ∙ simp (drop_of_length-le text h))

  module _ (q : r ≡ digits_at text at v) (h : at < length text) (b : ℕ) (p : b ≡ get_or text at 0) where
    pub digits-tab : b ≡ 9 → Inner v (at + 1) ≡ r
    unfolding digits_at digits_onward
    digits-tab e = sym (q ∙ simp (drop-cons text at 0 h, ← p, eq-eqb _ _ e))

    pub digits-feed : (b ≡ 9 → ⊥) → b ≡ 10 → Last v (at + 1) ≡ r
    unfolding digits_at digits_onward
    digits-feed n e = sym (q ∙ simp (drop-cons text at 0 h, ← p, ne_eqb _ _ n, eq-eqb _ _ e))

    pub digits-bad : (b ≡ 9 → ⊥) → (b ≡ 10 → ⊥) → may_follow v b ≡ false → Bad ≡ r
    unfolding digits_at digits_onward
    digits-bad n m e = sym (q ∙ simp (drop-cons text at 0 h, ← p, ne_eqb _ _ n, ne_eqb _ _ m, e))

    pub digits_more : (b ≡ 9 → ⊥) → (b ≡ 10 → ⊥) → may_follow v b ≡ true → r ≡ digits_at text (at + 1) (v * 10 + (b - 48))
    unfolding digits_at digits_onward
    digits_more n m e = q ∙ simp (drop-cons text at 0 h, ← p, ne_eqb _ _ n, ne_eqb _ _ m, e, add-one)

-- A byte's test of the library's is the definition's.
pub digit-test : (b : ℕ) → is_ascii_digit b ≡ is_digit b
unfolding within
digit-test b = refl

module _ (text : List ℕ) (at : ℕ) where
  pub field_end : length text ≤ at → Bad ≡ field_at text at
  unfolding field_at field_from
  field_end h = sym (simp (drop_of_length-le text h))

  module _ (h : at < length text) (b : ℕ) (p : b ≡ get_or text at b) where
    pub field-bad : is_ascii_digit b ≡ false → Bad ≡ field_at text at
    unfolding field_at field_from
    field-bad e = sym (simp (drop-cons text at b h, ← p, sym (digit-test b) ∙ e))

    pub field-more : is_ascii_digit b ≡ true → digits_at text (at + 1) (b - 48) ≡ field_at text at
    unfolding field_at field_from digits_at
    field-more e = sym (simp (drop-cons text at b h, ← p, sym (digit-test b) ∙ e, add-one))

pub may-follow : (v b : ℕ) → may_follow v b ≡ true → (1 ≤ v) × (v ≤ 999999) × (48 ≤ b) × (b ≤ 57)
unfolding may_follow
may-follow v b e =
    let p = and_parts _ (is_digit b) e in
    let q = and_parts (ltb 0 v) (leb v 999999) p.0 in
    let d = is_within 48 57 b p.1 in
    (ltb-true 0 v q.0, leb-true v 999999 q.1, d.0, d.1)
