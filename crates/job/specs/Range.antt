-- The ranges of a sample's numbers, as its line has them.
use Rattle.std.specs.Prelude.{ℕ, Bool, ◌&&◌, List, get_or, drop}
use Rattle.integer.specs.Within.{all_within, within}
use Rattle.limits.specs.Limits.{least_dilution, most_dilution, most_count}

-- "dilution (1..100) and n counts (0..65,535)"
unfoldable pub sample_in_range : List ℕ → Bool
sample_in_range xs = within least_dilution most_dilution (get_or xs 0 0) && all_within 0 most_count (drop 1 xs)
