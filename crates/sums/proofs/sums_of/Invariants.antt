-- After s samples the sums are those of the first s.
use Rattle.std.specs.Prelude.{◌≡◌}
use Rattle.integer.specs.Tabulate.{tabulate}
use Rattle.readings.specs.Samples.{sample_at, z}
use Rattle.sums.specs.Sums.{products, totals}
use Rattle.sums.proofs.sums_of.Given as goal

abbrev pub invariant-loop-s : goal.invariant-loop-s
invariant-loop-s l = record {
  channel : l.channel ≡ totals 8 z (tabulate l.s (sample_at l.n l.dilutions l.counts));
  cross : l.cross ≡ totals 64 products (tabulate l.s (sample_at l.n l.dilutions l.counts));
}
