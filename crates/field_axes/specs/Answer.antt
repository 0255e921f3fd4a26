-- The answer of a function that gives numbers or bytes.
use Rattle.std.specs.Prelude.{ℕ, cond, List, Result, Ok, Err, eqb, ℤ, pos, neg_ℤ, length}
use Rattle.refusal.specs.Refusal.{number_of}
use Rattle.refusal.specs.declared.Refusal.{Refusal}

-- How many were written, or the refusal's number negated.
unfoldable pub answered : Result ℕ Refusal → ℤ
answered (Ok count) = pos count
answered (Err refusal) = neg_ℤ (pos (number_of refusal))

-- How many there are, or the refusal's number negated.
unfoldable pub count_or_refusal : {X : Type 0} → ℕ → List X → ℤ
count_or_refusal refusal written = cond (eqb refusal 0) (pos (length written)) (neg_ℤ (pos refusal))
