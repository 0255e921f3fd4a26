-- Laws of what a writer answers, and of the buffer that it was lent.
use Rattle.std.specs.Prelude.{ℕ, ◌<◌, ◌≤◌, Bool, List, [], ◌∷◌, ◌++◌, Result, Ok, Err, leb, drop}
use Rattle.std.proofs.Math.Path.{◌≡◌, refl}
use Rattle.std.proofs.Common.{sym, ap, ◌∙◌, arith}
use Rattle.std.proofs.Math.Bool.{true, false}
use borrow.Author.Tests.{eq-eqb, ne_eqb, eqb-false, eqb-true, le-leb, lt-leb}
use Rattle.std.proofs.Math.Dec.{eqb, leb→le}
use Rattle.std.proofs.Math.ListN.{length}
use Rattle.limits.specs.Unless.{unless}
use Rattle.limits.specs.laws.Unless.{neither, passed}
use Rattle.text.specs.Put.{Put}
use Rattle.text.specs.laws.Put.{front_length}
use Rattle.text.specs.Written.{Writes, lent_after, or_short, written_of}
use Rattle.refusal.specs.declared.Refusal.{Refusal}
use Rattle.refusal.specs.Refusal.{judged, numbered}
use Rattle.refusal.specs.laws.Judged.{judged-err, judged-ok}

module _ (refusal needed size : ℕ) where
  -- a refusal before the buffer's
  pub refused-first : (refusal ≡ 0 → ⊥) → or_short refusal needed size ≡ refusal
  unfolding or_short
  refused-first f = rw (ne_eqb refusal 0 f)

  module _ (e : refusal ≡ 0) where
    pub short-last : size < needed → or_short refusal needed size ≡ 12
    unfolding or_short
    short-last h = rw (eq-eqb refusal 0 e, lt-leb needed size h)

    pub none_left : needed ≤ size → or_short refusal needed size ≡ 0
    unfolding or_short
    none_left h = rw (eq-eqb refusal 0 e, le-leb needed size h)

  -- where nothing is refused, nothing was before it, and there is room
  pub taken : or_short refusal needed size ≡ 0 → (refusal ≡ 0) × (needed ≤ size)
  unfolding or_short
  taken e =
      let n = neither refusal (unless (leb needed size) 12 0) e in
      (n.0, leb→le needed size (passed (leb needed size) 12 0 n.1 (omega arith)).0)

module _ {X : Type 0} (refusal : ℕ) (text entry : List X) where
  pub buffer-stays : (number : ℕ) → number ≡ refusal → (number ≡ 0 → ⊥) → entry ≡ lent_after refusal text entry
  unfolding lent_after
  buffer-stays number e f = rw (← e, ne_eqb number 0 f)

  pub buffer-written : refusal ≡ 0 → {exit : List X} {r : ℕ} → Put text 0 entry exit r → exit ≡ lent_after refusal text entry
  unfolding lent_after
  buffer-written e p = rw (eq-eqb refusal 0 e) p.leaves

-- ---- what a test of the values answered

module _ {X : Type 0} (number : ℕ) (x y : X) where
  pub not-judged : judged number x ≡ Ok y → number ≡ 0
  not-judged e = (judged-ok number x y (sym e)).0

module _ {X : Type 0} (number : ℕ) (x : X) where
  pub judged-refused : (k : Refusal) → judged number x ≡ Err k → (number ≡ 0 → ⊥) × (k ≡ numbered number)
  judged-refused k e = let f = judged-err number x k (sym e) in (eqb-false number 0 f.0, f.1)

-- ---- the three ends of a writer

module _ (refusal : ℕ) (text entry : List ℕ) where
  not_written : (number : ℕ) → or_short refusal (length text) (length entry) ≡ number → (number ≡ 0 → ⊥)
      → Writes refusal text entry entry (Err (numbered number))
  unfolding written_of judged
  not_written number e f =
      record {
        answer = rw (e, ne_eqb number 0 f);
        buffer = buffer-stays (or_short refusal (length text) (length entry)) text entry number (sym e) f;
      }

  pub refused : (number : ℕ) → number ≡ refusal → (number ≡ 0 → ⊥) → Writes refusal text entry entry (Err (numbered number))
  refused number e f = not_written number (refused-first refusal (length text) (length entry) (λ z. f (e ∙ z)) ∙ sym e) f

  -- refused by a test of the values
  pub not_taken : {X : Type 0} (x : X) (k : Refusal) → judged refusal x ≡ Err k → Writes refusal text entry entry (Err k)
  not_taken x k e =
      let j = judged-refused refusal x k e in
      rw j.1 (refused refusal refl j.0)

  pub short : refusal ≡ 0 → length entry < length text → Writes refusal text entry entry (Err (numbered 12))
  short e h = not_written 12 (short-last refusal (length text) (length entry) e h) (λ (z : 12 ≡ 0). omega arith)

  pub written : refusal ≡ 0 → {exit : List ℕ} {r : ℕ} → Put text 0 entry exit r → Writes refusal text entry exit (Ok r)
  unfolding written_of judged
  written e p =
      let room : length text ≤ length entry = omega (arith, front_length p, p.within) in
      let none : or_short refusal (length text) (length entry) ≡ 0 = none_left refusal (length text) (length entry) e room in
      record {
        answer = rw none (ap Ok (front_length p));
        buffer = buffer-written (or_short refusal (length text) (length entry)) text entry none p;
      }

  -- ---- and what each answer tells

  none-refused : (number k : ℕ) → Ok k ≡ written_of number text → (number ≡ 0) × (k ≡ length text)
  unfolding written_of
  none-refused number k = judged-ok number (length text) k

  -- the answer is a length: nothing was refused, it is the text's, and the text stands at the buffer's start
  pub length-tells : {exit : List ℕ} {k : ℕ} → Writes refusal text entry exit (Ok k)
      → (refusal ≡ 0) × (k ≡ length text) × (exit ≡ text ++ drop (length text) entry)
  unfolding lent_after
  length-tells {exit} {k} w =
      let none = none-refused (or_short refusal (length text) (length entry)) k w.answer in
      ((taken refusal (length text) (length entry) none.0).0, none.1, w.buffer ∙ rw none.0)

  -- a buffer with room for a text that is not refused
  pub room-tells : {exit : List ℕ} {r : Result ℕ Refusal} → Writes refusal text entry exit r → refusal ≡ 0 → length text ≤ length entry
      → (r ≡ Ok (length text)) × (exit ≡ text ++ drop (length text) entry)
  unfolding written_of judged lent_after
  room-tells w e h =
      let none = none_left refusal (length text) (length entry) e h in
      (w.answer ∙ rw none, w.buffer ∙ rw none)

  -- a refusal where the buffer has room: it is the one before the buffer's, and the buffer is as it was
  pub refusal-tells : {exit : List ℕ} {r : Result ℕ Refusal} → Writes refusal text entry exit r → (refusal ≡ 0 → length text ≤ length entry)
      → (k : Refusal) → r ≡ Err k → (k ≡ numbered refusal) × (refusal ≡ 0 → ⊥) × (exit ≡ entry)
  unfolding written_of judged lent_after
  refusal-tells {exit} {r} w room k e = by (eqb refusal 0) refl
    where
      by : (test : Bool) → eqb refusal 0 ≡ test → (k ≡ numbered refusal) × (refusal ≡ 0 → ⊥) × (exit ≡ entry)
      by true q =
          let none = eqb-true refusal 0 q in
          let told = (room-tells w none (room none)).0 in
          absurd (let z : ◌≡◌ {A = ℕ} 0 1 = cc in omega arith)
      by false q =
          let some = eqb-false refusal 0 q in
          let first = refused-first refusal (length text) (length entry) some in
          let told = rw (first, q) at w.answer in
          (cc, some, w.buffer ∙ rw (first, q))

-- ---- worked examples: 12 last, for a buffer that is a byte too short; the bytes past the text stay, and all of them at a refusal
examples : (or_short 0 5 4 ≡ 12) × (or_short 0 5 5 ≡ 0) × (or_short 3 5 4 ≡ 3) ×
    (written_of 0 (80 ∷ 10 ∷ []) ≡ Ok 2) × (written_of 12 (80 ∷ 10 ∷ []) ≡ Err (numbered 12)) ×
    (lent_after {X = ℕ} 0 (80 ∷ 10 ∷ []) (1 ∷ 2 ∷ 3 ∷ []) ≡ 80 ∷ 10 ∷ 3 ∷ []) × (lent_after {X = ℕ} 12 (80 ∷ 10 ∷ []) (1 ∷ []) ≡ 1 ∷ [])
unfolding or_short written_of judged lent_after
examples = (refl, refl, refl, refl, refl, refl, refl)
