-- The first line, and the rows.
use Rattle.std.proofs.Common.{arith, length-append}
use Rattle.text.specs.laws.Numbers.{length-number-line}
use Rattle.job_table.specs.inner.Done.{text_of_rows}
use Rattle.job_table.proofs.lines.Lines.length.Goals as goal

pub returns : goal.returns
unfolding text_of_rows
returns c = record {
  exact = rw (length-append, length-number-line) (omega (arith, c.rows_length.ensures.exact 83));
  bounded = omega (arith, c.args.self.now.few);
}
