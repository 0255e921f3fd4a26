-- The call of a line's numbers, by how many they are.
use Rattle.std.proofs.Common.{ℕ, suc, ◌-◌, ◌≤◌, ◌≡◌, refl, sym, ◌∙◌, List, [], ◌∷◌, ◌++◌, map, Option, Some, None, arith, ℤ}
use Rattle.std.proofs.Common.{pos, length, take, drop, get_or}
use borrow.Author.Tests.{ne_eqb}
use Rattle.std.proofs.Math.Seq.{take_at}
use Rattle.std.proofs.lemmas.List.{length-map}
use Rattle.text.specs.Parts.{split}
use Rattle.book.specs.Calls.{BookCall, add}
use Rattle.call_text.specs.Calls.{argument, number_limit, reading}
use Rattle.call_text.specs.Requests.{left_in}
use Rattle.call_text.specs.inner.Read.{FieldsRead}
use Rattle.call_text.specs.declared.line.Fields.{Fields}
use Rattle.call_text.specs.laws.Leading.{tagged, untagged}
use Rattle.book_text.specs.Calls.{book_call_by, book_call_of, no_number_of, one_number_of, sample_by}
use Rattle.book_text.specs.inner.Played.{number_alone}

pub alone-at : (ys : List ℤ) → length ys ≡ 1 → number_alone ys ≡ Some (argument (get_or ys 0 (pos 0)))
unfolding number_alone
alone-at [] e = absurd (omega arith)
alone-at (x ∷ []) e = refl
alone-at (x ∷ y ∷ xs) e = absurd (omega arith)

pub none-alone : (ys : List ℤ) → (length ys ≡ 1 → ⊥) → number_alone ys ≡ None
unfolding number_alone
none-alone [] f = refl
none-alone (x ∷ []) f = absurd (f refl)
none-alone (x ∷ y ∷ xs) f = refl

module _ (call : ℕ → BookCall) where
  pub not-alone : (ys : List ℤ) → number_alone ys ≡ None → one_number_of call ys ≡ None
  unfolding one_number_of number_alone
  not-alone [] e = refl
  not-alone (x ∷ []) e = let z : ◌≡◌ {A = ℕ} 0 1 = cc in absurd (omega arith)
  not-alone (x ∷ y ∷ xs) e = refl

  pub alone-is : (ys : List ℤ) (n : ℕ) → number_alone ys ≡ Some n → one_number_of call ys ≡ Some (call n)
  unfolding one_number_of number_alone
  alone-is [] n e = let z : ◌≡◌ {A = ℕ} 0 1 = cc in absurd (omega arith)
  alone-is (x ∷ []) n e = cc
  alone-is (x ∷ y ∷ xs) n e = let z : ◌≡◌ {A = ℕ} 0 1 = cc in absurd (omega arith)

pub bare : (call : BookCall) (ys : List ℤ) → length ys ≡ 0 → no_number_of call ys ≡ Some call
unfolding no_number_of
bare call [] e = refl
bare call (x ∷ xs) e = absurd (omega arith)

pub not-bare : (call : BookCall) (ys : List ℤ) → (length ys ≡ 0 → ⊥) → no_number_of call ys ≡ None
unfolding no_number_of
not-bare call [] f = absurd (f refl)
not-bare call (x ∷ xs) f = refl

pub no-sample : (ys : List ℤ) → length ys ≡ 0 → sample_by ys ≡ None
unfolding sample_by
no-sample [] e = refl
no-sample (x ∷ xs) e = absurd (omega arith)

pub sample-is : (ys : List ℤ) (rest r : List ℕ) → (length ys ≡ 0 → ⊥) → r ≡ map reading ys ++ rest →
    sample_by ys ≡ Some (add (get_or r 0 0) (take (length ys - 1) (drop 1 r)))
unfolding sample_by
sample-is [] rest r f q = absurd (f refl)
sample-is (x ∷ xs) rest r f q =
    let s : suc (length xs) - 1 ≡ length xs = omega arith in
    sym (rw (q, s, take_at (map reading xs) rest (length xs) (length-map xs reading)))

-- by the tag: another one
pub other-tag : (tag : ℕ) (ys : List ℤ) → (tag ≡ 78 → ⊥) → (tag ≡ 65 → ⊥) → (tag ≡ 75 → ⊥) → (tag ≡ 90 → ⊥) → (tag ≡ 66 → ⊥) →
    (tag ≡ 84 → ⊥) → book_call_by tag ys ≡ None
unfolding book_call_by
other-tag tag ys n₁ n₂ n₃ n₄ n₅ n₆ = simp (ne_eqb _ _ n₁, ne_eqb _ _ n₂, ne_eqb _ _ n₃, ne_eqb _ _ n₄, ne_eqb _ _ n₅, ne_eqb _ _ n₆)

module _ (line : List ℕ) (entry exit : List ℤ) (z : Option Fields) (r : FieldsRead line entry exit z) (s : length entry ≡ number_limit) where
  pub unread : z ≡ None → book_call_of line ≡ None
  unfolding book_call_of
  unread e = rw (← s) (untagged book_call_by (length entry) (split 9 line) (sym r.is ∙ e))

  module _ (f : Fields) (e : z ≡ Some f) where
    pub few-read : f.count ≤ number_limit
    few-read = rw (← s) (tagged book_call_by (length entry) (split 9 line) f.tag f.count (sym r.is ∙ e)).few

    pub is_read : book_call_of line ≡ book_call_by f.tag (take f.count exit)
    unfolding book_call_of left_in
    is_read =
        let t = tagged book_call_by (length entry) (split 9 line) f.tag f.count (sym r.is ∙ e) in
        let first : take f.count exit ≡ t.numbers = rw (r.leaves, t.lead) (take_at t.numbers _ f.count t.size) in
        rw (first, ← s) t.call
