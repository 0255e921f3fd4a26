-- Laws of the error of an axis: its rounding, what it gains where the table was rounded, and that it depends on row i alone.
use Rattle.std.specs.Prelude.{ℕ, suc, ◌+◌, ◌*◌, ◌<◌, ◌≡◌, refl, cond, eqb, nat_abs}
use Rattle.std.proofs.Common.{arith, lt-ltb, ap}
use Rattle.integer.specs.Matrix.{Matrix}
use Rattle.integer.specs.RoundedUp.{rounded_up}
use Rattle.integer.specs.Sum.{sumℕ}
use Rattle.integer.specs.laws.RoundedUp.{RoundedUp, rounded_up-rule}
use Rattle.integer.specs.laws.Sum.{sumℕ-cong}
use Rattle.limits.specs.Limits.{half_entry}
use Rattle.ledger.specs.Axis.{error_of, table_error}

-- 'plus 7m/2 rounded up': what is added to the sum is the least whole number that is not below 7m/2
pub error-rounds : (n e : ℕ) (a : Matrix) (m i : ℕ) →
    (t : ℕ) × RoundedUp (7 * m) 2 t × (error_of n e a m i ≡ sumℕ n (λ j. cond (eqb j i) 0 (nat_abs (a i j))) + t + table_error e n)
unfolding error_of
error-rounds n e a m i = (rounded_up (7 * m) 2, rounded_up-rule (7 * m) 2 (omega arith), refl)

-- 'For a table made from readings with e > 0, r_i gains 512 × n units'
pub error-gains : (n e : ℕ) (a : Matrix) (m i : ℕ) → error_of n (suc e) a m i ≡ error_of n 0 a m i + half_entry * n
unfolding error_of table_error
error-gains n e a m i = rw (lt-ltb 0 (suc e) (omega arith)) (omega arith)

-- of two matrices with the same row i
pub same-error : (n e : ℕ) (a b : Matrix) (m i : ℕ) → ((j : ℕ) → j < n → a i j ≡ b i j) → error_of n e a m i ≡ error_of n e b m i
unfolding error_of
same-error n e a b m i same =
    ap (λ sum. sum + rounded_up (7 * m) 2 + table_error e n) (sumℕ-cong n (λ j l. ap (λ z. cond (eqb j i) 0 (nat_abs z)) (same j l)))
