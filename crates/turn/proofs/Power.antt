-- The powers 4^l and 2^(l+1) for l up to 14: a shifted 1, and below 2^63.
use mathlib.Core.Path.{◌≡◌}
use mathlib.Core.Bool.{Bool}
use Prim.Native.Nat.{ℕ, ◌+◌, ◌*◌, ◌%◌, ◌<◌, ◌≤◌, ◌^◌, suc-le-suc}
use native.Mathlib.Omega.{arith}
use lib.Dec.{T, eqb, ltb, eqb→eq, ltb→lt}
use Rattle.integer.specs.Range.{all}
use Rattle.integer.specs.laws.Range.{below}
use Rattle.integer.specs.laws.Word.{shifted_one}

-- a test at every l up to 14
up_to14 : (f : ℕ → Bool) → T (all f 15) → (l : ℕ) → l ≤ 14 → T (f l)
up_to14 f t l h = below f 15 t l (suc-le-suc h)

pub power : (l : ℕ) → l ≤ 14 → (1 * 2 ^ (2 * l)) % 2 ^ 64 ≡ 4 ^ l
power l h = eqb→eq _ _ (up_to14 (λ k. eqb ((1 * 2 ^ (2 * k)) % 2 ^ 64) (4 ^ k)) tt l h)

pub power_small : (l : ℕ) → l ≤ 14 → 4 ^ l < 2 ^ 29
power_small l h = ltb→lt _ _ (up_to14 (λ k. ltb (4 ^ k) (2 ^ 29)) tt l h)

pub sine : (l : ℕ) → l ≤ 14 → (1 * 2 ^ (l + 1)) % 2 ^ 64 ≡ 2 ^ (l + 1)
sine l h = shifted_one (l + 1) (omega arith)
