-- Document 01, 'Choosing a turn': the thresholds T_l.
use Rattle.std.specs.Prelude.{ℕ, ◌+◌, ◌-◌, ◌*◌, ◌^◌}
use Rattle.integer.specs.RoundedUp.{rounded_up}

-- u = 2^(2l+1) − 1
unfoldable pub u : ℕ → ℕ
u l = 2 ^ (2 * l + 1) - 1

-- w = 3×2^l
unfoldable pub w : ℕ → ℕ
w l = 3 * 2 ^ l

-- T_l is 2^24 × 2uw / (u² − w²), rounded up to a whole number
unfoldable pub threshold : ℕ → ℕ
threshold l = rounded_up (2 ^ 24 * (2 * u l * w l)) (u l * u l - w l * w l)
