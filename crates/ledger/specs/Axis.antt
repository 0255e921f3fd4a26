-- Document 01, 'Axis i', and document 02, W5: the error of an axis.
use Rattle.std.specs.Prelude.{ℕ, ◌+◌, ◌*◌, cond, eqb, ltb, nat_abs}
use Rattle.integer.specs.Matrix.{Matrix}
use Rattle.integer.specs.RoundedUp.{rounded_up}
use Rattle.integer.specs.Sum.{sumℕ}
use Rattle.limits.specs.Limits.{half_entry}

-- 'For a table made from readings with e > 0, r_i gains 512 × n units'
unfoldable pub table_error : ℕ → ℕ → ℕ
table_error e n = cond (ltb 0 e) (half_entry * n) 0

-- 'r_i is the sum of |a_ij| over j other than i, plus 7m/2 rounded up, in units', and what it gains: of n, e, the kept matrix, m and i
unfoldable pub error_of : ℕ → ℕ → Matrix → ℕ → ℕ → ℕ
error_of n e a m i = sumℕ n (λ j. cond (eqb j i) 0 (nat_abs (a i j))) + rounded_up (7 * m) 2 + table_error e n
