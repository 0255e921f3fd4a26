-- The places below 8 × i + j have their products, and the others are as they were.
use Rattle.std.specs.Prelude.{ℕ, List, ◌+◌, ◌*◌}
use Rattle.integer.specs.laws.Filled.{Filled}
use Rattle.readings.specs.Samples.{sample}
use Rattle.sums.specs.Sums.{products}
use Rattle.sums.specs.inner.Raised.{raised}
use Rattle.sums.proofs.add_products.Given as goal

abbrev Sofar : ℕ → List ℕ → List ℕ → List ℕ → ℕ → Type 0
Sofar dilution counts start cross at = Filled 0 (raised 64 (products (sample dilution counts)) start) start cross at

abbrev pub invariant-loop-i : goal.invariant-loop-i
invariant-loop-i l = Sofar l.dilution l.counts l.fn.cross l.cross (8 * l.i + l.i)

abbrev pub invariant-loop-j : goal.invariant-loop-j
invariant-loop-j l = Sofar l.dilution l.counts l.fn.cross l.cross (8 * l.i + l.j)
