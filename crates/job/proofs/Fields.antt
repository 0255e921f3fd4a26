-- A field of a text as `split` parts it, and what `field_at` reads there.
use Prim.Native.Nat.{ℕ, suc, ◌+◌, ◌-◌, ◌*◌}
use mathlib.Core.Path.{◌≡◌, refl, ap, ◌∙◌}
use mathlib.Core.Bool.{Bool, true, false, cond}
use mathlib.Core.List.{List, [], ◌∷◌}
use mathlib.Core.Option.{Option, none, some}
use native.Mathlib.Omega.{arith}
use borrow.Author.Tests.{ne_eqb, eqb-true, eqb-false}
use lib.Dec.{eqb}
use lib.ListN.{length, drop}
use Rattle.text.specs.inner.Numeral.{is_digit}
use Rattle.text.specs.Parts.{onto, split}
use Rattle.integer.specs.Within.{within}
use Rattle.job.specs.inner.FieldScan.{may_follow, digits_onward, field_from}
use Rattle.job.specs.declared.field.Field.{Field}
use Rattle.job.specs.declared.field.Field.TheVariants.{Inner, Last, Bad}
use Rattle.job.proofs.Numeral.{more, numeral}

-- What ends a field: a tab, a line feed, or the end of the text.
pub data End : Type 0 where
  tab feed over : End

-- A text's first field, its end, and what follows.
pub data Cut : List ℕ → List ℕ → End → List ℕ → Type 0 where
  at-tab : {bs : List ℕ} → Cut (9 ∷ bs) [] tab bs
  at-feed : {bs : List ℕ} → Cut (10 ∷ bs) [] feed bs
  at-over : Cut [] [] over []
  past : {b : ℕ} {bs f : List ℕ} {e : End} {rest : List ℕ} → (b ≡ 9 → ⊥) → (b ≡ 10 → ⊥) → Cut bs f e rest → Cut (b ∷ bs) (b ∷ f) e rest

pub record Parts (bs : List ℕ) : Type 0 where
  pub field : List ℕ
  pub end : End
  pub rest : List ℕ
  pub cut : Cut bs field end rest

pub cut_of : (bs : List ℕ) → Parts bs
cut_of [] = record { field = []; end = over; rest = []; cut = at-over }
cut_of (b ∷ bs) = by-tab (eqb b 9) refl (cut_of bs)
  where
    by-feed : (b ≡ 9 → ⊥) → (t : Bool) → eqb b 10 ≡ t → Parts bs → Parts (b ∷ bs)
    by-feed n true e p = rw (eqb-true b 10 e) (record { field = []; end = feed; rest = bs; cut = at-feed })
    by-feed n false e p = record { field = b ∷ p.field; end = p.end; rest = p.rest; cut = past n (eqb-false b 10 e) p.cut }

    by-tab : (t : Bool) → eqb b 9 ≡ t → Parts bs → Parts (b ∷ bs)
    by-tab true e p = rw (eqb-true b 9 e) (record { field = []; end = tab; rest = bs; cut = at-tab })
    by-tab false e p = by-feed (eqb-false b 9 e) (eqb b 10) refl p

unfoldable pub ended : End → Option ℕ → ℕ → Field
ended tab none next = Bad
ended tab (some v) next = Inner v next
ended feed none next = Bad
ended feed (some v) next = Last v next
ended over o next = Bad

ended-none : (e : End) (next : ℕ) → Bad ≡ ended e none next
unfolding ended
ended-none tab next = refl
ended-none feed next = refl
ended-none over next = refl

-- One byte more, by whether it is a digit that may stand there: t.
ended-more : (t : Bool) (x : Field) (e : End) (o : Option ℕ) (at n : ℕ) → x ≡ ended e o (at + 1 + n) →
    cond t x Bad ≡ ended e (cond t o none) (at + suc n)
ended-more true x e o at n q =
    let s : at + 1 + n ≡ at + suc n = omega arith in
    q ∙ ap (ended e o) s
ended-more false x e o at n q = ended-none e _

digits-cut : {bs f rest : List ℕ} {e : End} → Cut bs f e rest → (v at : ℕ) → digits_onward v at bs ≡ ended e (more v f) (at + suc (length f))
unfolding digits_onward more ended
digits-cut at-tab v at = refl
digits-cut at-feed v at = refl
digits-cut at-over v at = refl
digits-cut (past {b = b} {f = f} {e = e} n m p) v at =
    simp (ne_eqb b 9 n, ne_eqb b 10 m)
    (ended-more (may_follow v b) _ e (more (v * 10 + (b - 48)) f) at (suc (length f)) (digits-cut p (v * 10 + (b - 48)) (at + 1)))

pub field_cut : {bs f rest : List ℕ} {e : End} → Cut bs f e rest → (at : ℕ) → field_from at bs ≡ ended e (numeral f) (at + suc (length f))
unfolding field_from numeral ended within
field_cut at-tab at = refl
field_cut at-feed at = refl
field_cut at-over at = refl
field_cut (past {b = b} {f = f} {e = e} n m p) at = ended-more (is_digit b) _ e (more (b - 48) f) at (suc (length f)) (digits-cut p (b - 48) (at + 1))

pub drop-cut : {bs f rest : List ℕ} {e : End} → Cut bs f e rest → drop (suc (length f)) bs ≡ rest
drop-cut at-tab = refl
drop-cut at-feed = refl
drop-cut at-over = refl
drop-cut (past n m p) = drop-cut p

-- `split` of a text whose first field has a tab, a line feed or nothing after it.
pub record TabLine (bs f l : List ℕ) (ls : List (List ℕ)) : Type 0 where
  pub line : List ℕ
  pub lines : split 10 bs ≡ line ∷ ls
  pub fields : split 9 line ≡ f ∷ split 9 l

pub split-tab : {bs f rest : List ℕ} → Cut bs f tab rest → (l : List ℕ) (ls : List (List ℕ)) → split 10 rest ≡ l ∷ ls → TabLine bs f l ls
unfolding split onto
split-tab at-tab l ls q = record { line = 9 ∷ l; lines = rw q; fields = refl }
split-tab (past {b = b} n m p) l ls q =
    let t = split-tab p l ls q in
    record {
      line = b ∷ t.line;
      lines = simp (ne_eqb b 10 m, t.lines);
      fields = simp (ne_eqb b 9 n, t.fields);
    }

pub split-feed : {bs f rest : List ℕ} → Cut bs f feed rest → (split 10 bs ≡ f ∷ split 10 rest) × (split 9 f ≡ f ∷ [])
unfolding split onto
split-feed at-feed = (refl, refl)
split-feed (past {b = b} n m p) =
    let t = split-feed p in
    (simp (ne_eqb b 10 m, t.0), simp (ne_eqb b 9 n, t.1))

pub split-over : {bs f rest : List ℕ} → Cut bs f over rest → split 10 bs ≡ f ∷ []
unfolding split onto
split-over at-over = refl
split-over (past {b = b} n m p) = simp (ne_eqb b 10 m, split-over p)
