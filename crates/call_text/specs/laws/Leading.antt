-- Where every field of a line is a number, all of them lead; what a line's fields give, by its tag and its numbers as they were read.
use Rattle.std.specs.Prelude.{ℕ, suc, ◌≤◌, Bool, ℤ}
use Rattle.std.proofs.Math.Path.{◌≡◌, refl}
use Rattle.std.proofs.Common.{ap, arith, take_all}
use Rattle.std.proofs.Math.Bool.{true, false, cond}
use mathlib.Core.List.{List, [], ◌∷◌}
use Rattle.std.proofs.Common.{None, Option, Some, option_and_then, option_map}
use Rattle.std.proofs.lemmas.Option.{same_Some}
use borrow.Author.Tests.{leb-true}
use Rattle.std.proofs.Math.Dec.{leb}
use Rattle.std.proofs.Math.ListN.{length}
use Rattle.call_text.specs.Calls.{call_of_fields, named_by}
use Rattle.call_text.specs.Fields.{of_fields, with_numbers}
use Rattle.call_text.specs.Numbers.{each_number, signed_of}
use Rattle.call_text.specs.Requests.{leading, left_by, onward}
use Rattle.call_text.specs.inner.Read.{counted, fields_by}
use Rattle.call_text.specs.declared.line.Fields.{Fields}

all-lead : (fs : List (List ℕ)) (ys : List ℤ) → each_number fs ≡ Some ys → (leading fs ≡ ys) × (length ys ≡ length fs)
unfolding each_number leading onward
all-lead [] ys e = let q : [] ≡ ys = cc in (q, rw (← q))
all-lead (f ∷ fs) ys e = by (signed_of f) (each_number fs) (λ xs q. all-lead fs xs q) e
  where
    by : (o : Option ℤ) (p : Option (List ℤ)) → ((xs : List ℤ) → p ≡ Some xs → (leading fs ≡ xs) × (length xs ≡ length fs)) →
        option_and_then (λ x. option_map (λ xs. x ∷ xs) p) o ≡ Some ys → (onward o (leading fs) ≡ ys) × (length ys ≡ suc (length fs))
    by None p later e = absurd (let z : ◌≡◌ {A = ℕ} 0 1 = cc in omega arith)
    by (Some x) None later e = absurd (let z : ◌≡◌ {A = ℕ} 0 1 = cc in omega arith)
    by (Some x) (Some xs) later e =
        let l = later xs refl in
        let w : x ∷ xs ≡ ys = cc in
        (rw l.0 w, rw (← w) (ap suc l.1))

-- a line with a tag and numbers, and one without
module _ {C : Type 0} (given : ℕ → List ℤ → Option C) where
  pub record Tagged (most : ℕ) (fs : List (List ℕ)) (tag count : ℕ) : Type 0 where
    pub numbers : List ℤ
    pub call : of_fields given most fs ≡ given tag numbers
    pub lead : left_by most fs ≡ numbers
    pub size : length numbers ≡ count
    pub few : count ≤ most

  pub tagged : (most : ℕ) (fs : List (List ℕ)) (tag count : ℕ) → fields_by most fs ≡ Some (record { tag = tag; count = count }) →
      Tagged most fs tag count
  unfolding fields_by of_fields left_by counted with_numbers
  tagged most [] tag count e = absurd (let z : ◌≡◌ {A = ℕ} 0 1 = cc in omega arith)
  tagged most ([] ∷ fs) tag count e = absurd (let z : ◌≡◌ {A = ℕ} 0 1 = cc in omega arith)
  tagged most ((t ∷ b ∷ bs) ∷ fs) tag count e = absurd (let z : ◌≡◌ {A = ℕ} 0 1 = cc in omega arith)
  tagged most ((t ∷ []) ∷ fs) tag count e = by (leb (length fs) most) refl (each_number fs) refl e
    where
      by : (b : Bool) → leb (length fs) most ≡ b → (o : Option (List ℤ)) → each_number fs ≡ o →
          cond b (with_numbers counted t o) None ≡ Some (record { tag = tag; count = count }) → Tagged most ((t ∷ []) ∷ fs) tag count
      by false l o q e = absurd (let z : ◌≡◌ {A = ℕ} 0 1 = cc in omega arith)
      by true l None q e = absurd (let z : ◌≡◌ {A = ℕ} 0 1 = cc in omega arith)
      by true l (Some ys) q e =
          let s = same_Some _ _ e in
          let w : t ≡ tag = ap (λ (f : Fields). f.tag) s in
          let k : length ys ≡ count = ap (λ (f : Fields). f.count) s in
          let a = all-lead fs ys q in
          let h = leb-true (length fs) most l in
          record {
            numbers = ys;
            call = rw (l, q, w);
            lead = rw a.0 (take_all most ys (omega (arith, a.1)));
            size = k;
            few = omega (arith, a.1);
          }

  pub untagged : (most : ℕ) (fs : List (List ℕ)) → fields_by most fs ≡ None → of_fields given most fs ≡ None
  unfolding fields_by of_fields counted with_numbers
  untagged most [] e = refl
  untagged most ([] ∷ fs) e = refl
  untagged most ((t ∷ b ∷ bs) ∷ fs) e = refl
  untagged most ((t ∷ []) ∷ fs) e = by (leb (length fs) most) (each_number fs) e
    where
      by : (b : Bool) (o : Option (List ℤ)) → cond b (with_numbers counted t o) None ≡ None → cond b (with_numbers given t o) None ≡ None
      by false o e = refl
      by true None e = refl
      by true (Some ys) e = absurd (let z : ◌≡◌ {A = ℕ} 0 1 = cc in omega arith)

-- A line's call is what its fields give by `named_by`.
pub calls-given : (most : ℕ) (fs : List (List ℕ)) → call_of_fields most fs ≡ of_fields named_by most fs
unfolding call_of_fields
calls-given most fs = refl
