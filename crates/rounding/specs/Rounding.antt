-- Document 01, 'Rounding to nearest': rnd(u/w), for whole u and whole w > 0, is the nearest whole number, halves away from zero.
use Rattle.std.specs.Prelude.{ℕ, suc, ◌+◌, ◌/◌, ℤ, pos, negsuc, neg_ℤ}

-- rnd(u/w)
unfoldable pub rnd : ℤ → ℕ → ℤ
rnd (pos u) w = pos ((u + w / 2) / w)
rnd (negsuc u) w = neg_ℤ (pos ((suc u + w / 2) / w))
