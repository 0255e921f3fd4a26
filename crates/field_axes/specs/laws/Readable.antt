-- Readings that are not refused: what they keep to, and how many numbers their table gives.
use Rattle.std.specs.Prelude.{ℕ, ◌+◌, ◌*◌, ◌≤◌, ◌≡◌, List, length, take}
use Rattle.std.proofs.Common.{arith, length-append, length-take-le}
use Rattle.limits.specs.laws.Channels.{places}
use Rattle.limits.specs.laws.Values.{some-entry}
use Rattle.scatter.specs.laws.Table.{table_is}
use Rattle.readings.specs.Refusal.{samples_refusal}
use Rattle.readings.specs.laws.Refusal.{are-readings}
use Rattle.readings.specs.Samples.{Sample, samples}
use Rattle.text.specs.laws.Written.{taken}
use Rattle.scatter.specs.Table.{table_of}
use Rattle.field_axes.specs.Table.{table_numbers, table_numbers_of, table_refusal}
use Rattle.field_axes.specs.inner.Readable.{Readable}

pub readable : (n : ℕ) (dilutions counts : List ℕ) (size : ℕ) → table_refusal n dilutions counts size ≡ 0 → Readable n dilutions counts size
unfolding table_refusal
readable n dilutions counts size e =
    let passed = taken (samples_refusal n dilutions counts) (1 + 2 * (n * n)) size e in
    record { readings = are-readings n dilutions counts passed.0; room = passed.1 }

module _ (n : ℕ) (h : n ≤ 8) (ss : List Sample) where
  pub length-scatter : length (table_of n ss).scatter ≡ 64
  length-scatter = (table_is n h some-entry ss).scatter.size

  pub length-entries : length (table_of n ss).entries ≡ 64
  length-entries = (table_is n h some-entry ss).entries.size

  -- the first n×n of them
  pub scatter-used : length (take (n * n) (table_of n ss).scatter) ≡ n * n
  scatter-used = length-take-le (n * n) (table_of n ss).scatter (rw length-scatter (places n h))

  pub entries-used : length (take (n * n) (table_of n ss).entries) ≡ n * n
  entries-used = length-take-le (n * n) (table_of n ss).entries (rw length-entries (places n h))

pub length-table : (n : ℕ) (dilutions counts : List ℕ) → n ≤ 8 → length (table_numbers_of n dilutions counts) ≡ 1 + 2 * (n * n)
unfolding table_numbers_of table_numbers
length-table n dilutions counts h =
    let ss = samples n dilutions counts in
    simp (length-append, scatter-used n h ss, entries-used n h ss) (omega arith)
