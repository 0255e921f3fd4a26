-- A refusal and its number determine one another.
use Rattle.std.specs.Prelude.{◌≡◌, Bool, ℕ, zero, suc, ◌+◌, ◌≤◌, T, eqb}
use Rattle.std.proofs.Common.{arith}
use Rattle.std.proofs.Math.Facts.{eqb_yes}
use Rattle.integer.specs.Range.{all}
use Rattle.integer.specs.laws.Range.{below}
use Rattle.refusal.specs.declared.Refusal.{Refusal}
use Rattle.refusal.specs.Refusal.{number_of, numbered}

pub numbered-number_of : (r : Refusal) → numbered (number_of r) ≡ r
numbered-number_of r = grind arith

-- from 1 on
pub number_of-low : (r : Refusal) → 1 ≤ number_of r
number_of-low r = grind arith

-- to 16
pub number_of-high : (r : Refusal) → number_of r ≤ 16
number_of-high r = grind arith

abbrev same : ℕ → Bool
same k = eqb (number_of (numbered (k + 1))) (k + 1)

each : T (all same 16)
each = tt

-- every number from 1 to 16 is a refusal's
pub number_of-numbered : (number : ℕ) → 1 ≤ number → number ≤ 16 → number_of (numbered number) ≡ number
number_of-numbered zero low high = absurd (omega arith)
number_of-numbered (suc k) low high = let e : suc k ≡ k + 1 = omega arith in rw e (eqb_yes (below same 16 each k (omega arith)))
