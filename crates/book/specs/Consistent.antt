-- What holds of every book that the constructor and the calls make.
use Rattle.std.specs.Prelude.{◌≡◌, true, List, [], ◌∷◌, ℕ, ◌≤◌, length}
use Rattle.limits.specs.Limits.{most_channels, most_samples}
use Rattle.readings.specs.Ranges.{samples_within}
use Rattle.readings.specs.Samples.{Sample}
use Rattle.sums.specs.Sums.{sums_of}
use Rattle.book.specs.Book.{book_with, samples_in}
use Rattle.book.specs.declared.Book.{Book}

-- a sample's values are in their ranges, and it has n counts
pub record ProperSample (n : ℕ) (s : Sample) : Type 0 where
  pub ranges : samples_within (s.dilution ∷ []) s.counts ≡ true
  pub counted : length s.counts ≡ n

abbrev pub AllProper : ℕ → List Sample → Type 0
AllProper n [] = Unit
AllProper n (s ∷ ss) = ProperSample n s × AllProper n ss

-- The samples are proper, at most 256 of them, the summary is that of these samples, and there is 0 past them.
pub record Consistent (b : Book) : Type 0 where
  pub channels : b.n ≤ most_channels
  pub number : length (samples_in b) ≤ most_samples
  pub proper : AllProper b.n (samples_in b)
  pub is : b ≡ book_with b.n (sums_of (samples_in b)) (samples_in b)
