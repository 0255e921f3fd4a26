-- `sums::sums_of` meets its contract: after s samples the sums are those of the first s.
use Rattle.std.specs.Prelude.{refl, ◌*◌}
use Rattle.std.proofs.Common.{arith}
use Rattle.integer.specs.Tabulate.{tabulate}
use Rattle.readings.specs.Samples.{total, z}
use Rattle.sums.specs.Sums.{products, totals}
use Rattle.sums.specs.inner.Ranges.{z_limit}
use Rattle.sums.specs.laws.Bounds.{z-bound, products_bound}
use Rattle.sums.proofs.First.{in-range, sums_next, sums-room, all-samples}
use Rattle.sums.proofs.sums_of.Goals as goal

pub loop-s-init : goal.loop-s-init
unfolding totals tabulate total
loop-s-init c = record { channel = refl; cross = refl }

pub add_values-requires : goal.add_values-requires
add_values-requires c = (
  in-range _ _ _ c.requires _ c.loop-s-test.true,
  sums-room _ _ _ c.requires _ c.loop-s-test.true 8 z c.loop-s.invariant.channel z_limit z-bound,
)

pub add_products-requires : goal.add_products-requires
add_products-requires c = (
  in-range _ _ _ c.requires _ c.loop-s-test.true,
  sums-room _ _ _ c.requires _ c.loop-s-test.true 64 products c.loop-s.invariant.cross (z_limit * z_limit) products_bound,
)

pub loop-s-preserved : goal.loop-s-preserved
loop-s-preserved c = record {
  channel = sums_next _ _ _ c.requires _ c.loop-s-test.true 8 z c.loop-s.invariant.channel c.add_values.ensures;
  cross = sums_next _ _ _ c.requires _ c.loop-s-test.true 64 products c.loop-s.invariant.cross c.add_products.ensures;
}

pub returns : goal.returns
returns c = all-samples _ _ _ (omega arith) c.loop-s.invariant.channel c.loop-s.invariant.cross
