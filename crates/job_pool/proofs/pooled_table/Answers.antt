-- `job_pool::pooled_table` meets its contract: the sums of both, and those added, are bounded.
use mathlib.Core.Path.{◌≡◌}
use mathlib.Core.List.{List}
use Prim.Native.Nat.{ℕ}
use lib.ListN.{length}
use Rattle.readings.specs.Ranges.{Readings}
use Rattle.readings.specs.Samples.{samples}
use Rattle.readings.specs.laws.Samples.{length-samples}
use Rattle.sums.specs.Ranges.{Bounded}
use Rattle.sums.specs.Sums.{sums_of}
use Rattle.sums.specs.declared.Sums.{Sums}
use Rattle.sums.specs.laws.Bounds.{readings-bounded}
use Rattle.sums.specs.laws.Combined.{plus-bounded}
use Rattle.sums.specs.laws.Sums.{number_of}
use Rattle.job_pool.proofs.pooled_table.Goals as goal

-- the sums of readings
module _ (n : ℕ) (dilutions counts : List ℕ) {s : Sums} (e : s ≡ sums_of (samples n dilutions counts)) where
  bounded : Readings n dilutions counts → Bounded s
  bounded r = rw e (readings-bounded n dilutions counts r)

  counted : s.k ≡ length dilutions
  counted = rw (e, number_of (samples n dilutions counts)) (length-samples n dilutions counts)

pub plus-requires : goal.plus-requires
plus-requires c = (
  bounded _ _ _ c.sums_of-sums1.ensures c.requires.first,
  bounded _ _ _ c.sums_of-sums2.ensures c.requires.second,
  rw (counted _ _ _ c.sums_of-sums1.ensures, counted _ _ _ c.sums_of-sums2.ensures) c.requires.together,
)

pub table_of-requires : goal.table_of-requires
table_of-requires c =
    let first = c.sums_of-sums1.ensures in
    let second = c.sums_of-sums2.ensures in (
      c.requires.first.channels,
      rw c.plus.ensures
          (plus-bounded _ _ (bounded _ _ _ first c.requires.first) (bounded _ _ _ second c.requires.second)
          (rw (counted _ _ _ first, counted _ _ _ second) c.requires.together)),
    )
