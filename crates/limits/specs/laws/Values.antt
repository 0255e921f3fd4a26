-- Limits that follow from others: the ceiling of a 32-bit count, the turns of 16 sweeps over the 28 pairs of 8 channels, the entry limit, twice
-- the former one, and half an entry in units.
use Rattle.std.specs.Prelude.{◌≡◌, refl, ◌*◌, ◌-◌, ◌/◌, ◌^◌, ◌≤◌}
use Rattle.std.proofs.Common.{arith}
use Rattle.limits.specs.Limits.{entry_limit, former_entry_limit, half_entry, most_channels, most_sweeps, refused_limit, turn_limit, units}

pub refused-limit : refused_limit ≡ 2 ^ 32 - 1
refused-limit = refl

pub turn-limit : turn_limit ≡ most_sweeps * (most_channels * (most_channels - 1) / 2)
turn-limit = refl

-- document 02, W9: 'Twice the strength'
pub entry-limit : entry_limit ≡ 2 * former_entry_limit
entry-limit = refl

-- document 02, W5: rounding moves an entry by at most a half of 1, which is 1024 units
pub half-entry : 2 * half_entry ≡ units
half-entry = refl

pub former-below : former_entry_limit ≤ entry_limit
former-below = omega arith

pub some-entry : 1 ≤ entry_limit
some-entry = omega arith
