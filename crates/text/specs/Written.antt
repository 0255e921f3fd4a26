-- What a writer into a lent buffer answers, and what the buffer then holds. Document 02, W1: 'a short buffer gets 12', tried last. 'Here and in every
-- later writer the answer is the length, and bytes past it stay.' A refusal's number is 0 where nothing is refused.
use Rattle.std.specs.Prelude.{ℕ, ◌≡◌, cond, List, ◌++◌, Result, eqb, leb, length, drop}
use Rattle.limits.specs.Unless.{unless}
use Rattle.refusal.specs.declared.Refusal.{Refusal}
use Rattle.refusal.specs.Refusal.{judged}

-- The refusal before it, then 12 for a buffer of fewer bytes, or numbers, than are needed
unfoldable pub or_short : ℕ → ℕ → ℕ → ℕ
or_short refusal needed size = cond (eqb refusal 0) (unless (leb needed size) 12 0) refusal

-- 'the answer is the length'
unfoldable pub written_of : ℕ → List ℕ → Result ℕ Refusal
written_of refusal text = judged refusal (length text)

-- 'bytes past it stay'; 'buffers stay' at a refusal
unfoldable pub lent_after : {X : Type 0} → ℕ → List X → List X → List X
lent_after refusal text entry = cond (eqb refusal 0) (text ++ drop (length text) entry) entry

-- A text that is refused with this number, or written: the answer, and every byte of the lent buffer
pub record Writes (refusal : ℕ) (text entry exit : List ℕ) (r : Result ℕ Refusal) : Type 0 where
  pub answer : r ≡ written_of (or_short refusal (length text) (length entry)) text
  pub buffer : exit ≡ lent_after (or_short refusal (length text) (length entry)) text entry
