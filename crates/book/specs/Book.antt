-- Document 02, W7: 'Keep beside the samples a summary: their number, channel sums and cross sums.' How a book holds samples, and which it holds.
use Rattle.std.specs.Prelude.{ℕ, List, [], ◌∷◌, ◌++◌}
use Rattle.integer.specs.Padded.{padded}
use Rattle.integer.specs.Tabulate.{tabulate}
use Rattle.readings.specs.Samples.{Sample, sample_at}
use Rattle.sums.specs.Sums.{sums_of}
use Rattle.sums.specs.declared.Sums.{Sums}
use Rattle.book.specs.declared.Book.{Book}

-- the dilutions of samples, and their counts, one sample after another
unfoldable pub dilutions_of : List Sample → List ℕ
dilutions_of [] = []
dilutions_of (s ∷ ss) = s.dilution ∷ dilutions_of ss

unfoldable pub counts_of : List Sample → List ℕ
counts_of [] = []
counts_of (s ∷ ss) = s.counts ++ counts_of ss

-- a book of n channels with these samples and this summary: 0 past the samples
unfoldable pub book_with : ℕ → Sums → List Sample → Book
book_with n summary ss =
    record { n = n; summary = summary; dilutions = padded 256 0 (dilutions_of ss); counts = padded 2048 0 (counts_of ss) }

-- the samples that a book holds: as many as its summary says
unfoldable pub samples_in : Book → List Sample
samples_in b = tabulate b.summary.k (sample_at b.n b.dilutions b.counts)

-- an empty one for n channels; before one is begun, n is 0
unfoldable pub empty_book : ℕ → Book
empty_book n = book_with n (sums_of []) []

unfoldable pub no_book : Book
no_book = empty_book 0
