-- Document 01, 'Making a turn': c, s and N, and the two new entries of a pair, each rounded once.
use Rattle.std.specs.Prelude.{ℕ, ◌+◌, ◌^◌, Bool, ℤ, pos, neg_ℤ, ◌+ℤ◌, ◌-ℤ◌, ◌*ℤ◌}
use Rattle.integer.specs.Signed.{signed}
use Rattle.rounding.specs.Rounding.{rnd}
use Rattle.turn.specs.declared.pair.Rotation.{Rotation}

-- N = 4^l + 1, c = 4^l − 1, s = f × 2^(l+1)
unfoldable pub rotation_of : ℕ → Bool → Rotation
rotation_of l minus =
    record { c = pos (4 ^ l) -ℤ pos 1; s = signed minus (2 ^ (l + 1)); n = 4 ^ l + 1 }

-- rnd((c×x + s×y)/N)
unfoldable pub first : Rotation → ℤ → ℤ → ℤ
first r x y = rnd (r.c *ℤ x +ℤ r.s *ℤ y) r.n

-- rnd((−s×x + c×y)/N)
unfoldable pub second : Rotation → ℤ → ℤ → ℤ
second r x y = rnd (neg_ℤ r.s *ℤ x +ℤ r.c *ℤ y) r.n
