-- A table made from readings is a matrix that a run may load.
use Rattle.std.specs.Prelude.{List, ℕ, ◌*◌, ◌≤◌, take}
use Rattle.limits.specs.Limits.{tolerance_limit, most_sweeps}
use Rattle.scatter.specs.Table.{table_of}
use Rattle.readings.specs.Samples.{Sample}
use Rattle.record.specs.laws.Accepted.{table_taken}
use Rattle.run.specs.Run.{Allowed}

pub table-allowed : (n : ℕ) (ss : List Sample) → 2 ≤ n → n ≤ 8 → (limit tolerance : ℕ) → limit ≤ most_sweeps → tolerance ≤ tolerance_limit →
    Allowed n (take (n * n) (table_of n ss).entries) limit tolerance
table-allowed n ss low high limit tolerance l k = record { matrix = table_taken n ss low high; sweeps = l; tolerance = k }
