-- What the rebuild is made of.
use Rattle.std.specs.Prelude.{ℕ}
use Rattle.readings.specs.Samples.{Sample, sample_at}
use Rattle.book.specs.declared.Book.{Book}

-- the s-th of a book's samples, counted from 0
abbrev pub sample_of : Book → ℕ → Sample
sample_of b = sample_at b.n b.dilutions b.counts
