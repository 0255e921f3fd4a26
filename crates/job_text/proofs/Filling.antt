-- The counts of a sample among all of them.
use Prim.Native.Nat.{ℕ, ◌+◌, ◌*◌, ◌<◌, ◌≤◌}
use mathlib.Core.List.{List}
use native.Mathlib.Nat.{mul-le-mul_left, mul-suc}
use native.Mathlib.Omega.{arith}
use lib.ListN.{length}
use Rattle.readings.specs.Ranges.{Readings}

-- The counts of sample i are there.
module _ (n : ℕ) (dilutions counts : List ℕ) (r : Readings n dilutions counts) (i : ℕ) (h : i < length dilutions) where
  pub counts-there : n * i + n ≤ length counts
  counts-there = rw r.counted (omega (arith, mul-suc n i, mul-le-mul_left n h))
