-- `book::empty_book` meets its contract.
use Rattle.std.specs.Prelude.{refl}
use Rattle.integer.specs.Padded.{padded}
use Rattle.integer.specs.Tabulate.{tabulate}
use Rattle.readings.specs.Samples.{total}
use Rattle.sums.specs.Sums.{sums_of, totals}
use Rattle.book.specs.Book.{book_with, counts_of, dilutions_of, empty_book}
use Rattle.book.proofs.empty_book.Goals as goal

pub returns : goal.returns
unfolding empty_book book_with sums_of totals padded dilutions_of counts_of tabulate total
returns c = refl
