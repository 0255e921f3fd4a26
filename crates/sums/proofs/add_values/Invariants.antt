-- Channel after channel the value is added.
use Rattle.integer.specs.laws.Filled.{Filled}
use Rattle.readings.specs.Samples.{sample, z}
use Rattle.sums.specs.inner.Raised.{raised}
use Rattle.sums.proofs.add_values.Given as goal

abbrev pub invariant-loop-i : goal.invariant-loop-i
invariant-loop-i l = Filled 0 (raised 8 (z (sample l.dilution l.counts)) l.fn.channel) l.fn.channel l.channel l.i
