-- One line more: its numbers have at most 189 bytes, and there are at most 256 lines.
use Rattle.std.proofs.Common.{◌+◌, ◌∙◌, ap, arith, length, length-take-le}
use Rattle.text.specs.Line.{numbers}
use Rattle.text.specs.laws.Lines.{lines-length, lines_none}
use Rattle.text.specs.laws.Numbers.{length-number-line}
use Rattle.job_text.specs.JobText.{sample_line}
use Rattle.job_text.proofs.samples.Lines.length.Goals as goal

pub loop-i-init : goal.loop-i-init
loop-i-init c = record { exact = rw (lines_none (sample_line _ _ _)); bounded = omega arith }

pub loop-i-preserved : goal.loop-i-preserved
unfolding sample_line
loop-i-preserved c =
    let size = c.numbers_length.ensures.exact ∙ ap (λ l. length (numbers l)) c.numbers.ensures.1 in
    let channels = c.args.self.now.readings.channels in
    let few = length-take-le (c.args.self.now.samples.n + 1) c.numbers.result (omega (arith, c.numbers.ensures.0)) in
    record {
      exact = rw (lines-length (sample_line _ _ _) c.loop-i.i, length-number-line) (omega (arith, c.loop-i.invariant.exact, size));
      bounded = omega (arith, few, c.numbers_length.ensures.bounded, channels);
    }
