-- What rounding up means: the least whole number that is not below the quotient, and the only one.
use Rattle.std.specs.Prelude.{◌≡◌, ℕ, suc, ◌+◌, ◌-◌, ◌*◌, ◌<◌, ◌≤◌}
use Rattle.std.proofs.Math.Nat.{lt-div-mul-add}
use Rattle.std.proofs.Common.{div-lt_iff_lt-mul, arith}
use Rattle.integer.specs.RoundedUp.{rounded_up}

-- t is the least whole number that is not below x / y
pub record RoundedUp (x y t : ℕ) : Type 0 where
  pub enough : x ≤ t * y
  pub least : (k : ℕ) → x ≤ k * y → t ≤ k

pub rounded_up-rule : (x y : ℕ) → 0 < y → RoundedUp x y (rounded_up x y)
unfolding rounded_up
rounded_up-rule x y h =
    record {
      enough = omega (arith, lt-div-mul-add {a = x + (y - 1)} h);
      least = λ k e. omega (arith, (div-lt_iff_lt-mul {x = x + (y - 1)} {y = suc k} h).1 (omega arith));
    }

pub rounded_up-unique : (x y t : ℕ) → 0 < y → RoundedUp x y t → t ≡ rounded_up x y
unfolding rounded_up
rounded_up-unique x y t h r = omega (arith, least, r.least (rounded_up x y) enough)
  where
    enough : x ≤ rounded_up x y * y
    enough = omega (arith, lt-div-mul-add {a = x + (y - 1)} h)

    least : rounded_up x y ≤ t
    least = omega (arith, (div-lt_iff_lt-mul {x = x + (y - 1)} {y = suc t} h).1 (omega (arith, r.enough)))
