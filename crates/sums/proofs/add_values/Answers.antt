-- `sums::add_values` meets its contract: channel after channel the value is added, and a channel that the sample lacks keeps its sum.
use Rattle.std.specs.Prelude.{refl, ◌+◌}
use Rattle.std.proofs.Common.{mul-le-mul, le_refl, arith}
use Rattle.readings.specs.Samples.{sample, z}
use Rattle.sums.proofs.Raised.{raised-more, raised-skip, raised_all, no_value}
use Rattle.sums.proofs.add_values.Goals as goal

pub overflow_add-channel : goal.overflow_add-channel
overflow_add-channel c =
    let i = c.loop-i.i in
    record {
      fits = omega (
        arith,
        mul-le-mul (c.requires.0.count i) c.requires.0.dilution,
        c.product.ensures,
        c.requires.1.most i,
        c.loop-i.invariant.after i (le_refl i),
      );
    }

pub loop-i-preserved : goal.loop-i-preserved
unfolding z
loop-i-preserved c =
    raised-more 8 (z (sample c.args.dilution c.args.counts.now)) c.args.channel.now c.requires.1.size c.loop-i.invariant
    c.loop-i.i (c.loop-i.i + 1) _ refl (omega arith) (omega arith) c.product.ensures

pub returns : goal.returns
returns c =
    let f = z (sample c.args.dilution c.args.counts.now) in
    raised_all 8 f c.args.channel.now c.requires.1.size
    (raised-skip 8 f c.args.channel.now c.requires.1.size c.loop-i.invariant 8 (omega arith)
    (λ p a b. no_value (sample c.args.dilution c.args.counts.now) p (omega arith))) (omega arith)
