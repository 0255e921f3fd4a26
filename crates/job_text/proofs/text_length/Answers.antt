-- The first line, the samples and the last line.
use Rattle.std.proofs.Common.{arith, length-append}
use Rattle.text.specs.laws.Numbers.{length-number-line}
use Rattle.job_text.specs.inner.Lines.{text_of_lines}
use Rattle.job_text.proofs.text_length.Goals as goal

pub returns : goal.returns
unfolding text_of_lines
returns c = record {
  exact = simp (length-append, length-number-line) (omega (arith, c.numbers_length.ensures, c.length.ensures, c.numbers_length-2.ensures));
  bounded = omega (arith, c.numbers_length.ensures, c.length.ensures, c.numbers_length-2.ensures);
}
