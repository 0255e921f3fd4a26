-- Document 02, W7: 'From an empty one, with nobody else writing it or the samples, after any adds and strikes it equals one made afresh from those
-- that remain.' The list that is fed the calls alone, and the claim about every list of calls, refused ones included.
use Rattle.std.specs.Prelude.{◌≡◌, cond, List, [], ◌∷◌, ℕ, eqb, length}
use Rattle.readings.specs.Samples.{Sample}
use Rattle.sums.specs.Sums.{sums_of}
use Rattle.book.specs.Book.{no_book, samples_in}
use Rattle.book.specs.Calls.{BookCall, book_after, book_refusal, channels_after, samples_then}
use Rattle.book.specs.Consistent.{Consistent}
use Rattle.book.specs.declared.Book.{Book}

-- channels and samples, which know the calls and nothing of the book
pub record Fed : Type 0 where
  pub n : ℕ
  pub samples : List Sample

-- before one is begun
unfoldable pub unfed : Fed
unfed = record { n = 0; samples = [] }

-- a call leaves them as they are where it is refused on their own n and number
unfoldable pub fed_then : Fed → BookCall → Fed
fed_then f call =
    cond (eqb (book_refusal f.n (length f.samples) call) 0)
    (record { n = channels_after call f.n; samples = samples_then call f.samples })
    f

-- after a list of calls, from the first on
unfoldable pub fed_all : Fed → List BookCall → Fed
fed_all f [] = f
fed_all f (call ∷ calls) = fed_all (fed_then f call) calls

unfoldable pub book_after_all : Book → List BookCall → Book
book_after_all b [] = b
book_after_all b (call ∷ calls) = book_after_all (book_after b call) calls

-- the book holds those samples, and its summary is one made afresh from them
pub record Summarises (b : Book) (f : Fed) : Type 0 where
  pub channels : b.n ≡ f.n
  pub samples : samples_in b ≡ f.samples
  pub summary : b.summary ≡ sums_of f.samples
  pub consistent : Consistent b

abbrev pub SummaryOfThoseThatRemain : Type 0
SummaryOfThoseThatRemain = (calls : List BookCall) → Summarises (book_after_all no_book calls) (fed_all unfed calls)
