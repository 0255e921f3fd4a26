-- `main`: the two lines fit the buffer.
use lib.Dec.{lit≤}
use Rattle.text.specs.Decimal.{digits_by, digits, number}
use Rattle.text.specs.Line.{further, line, number_line, word_line}
use Rattle.test_text.proofs.main.Goals as goal

pub two_lines-end-requires : goal.two_lines-end-requires
unfolding number_line word_line line further number digits digits_by
two_lines-end-requires c = lit≤ tt
