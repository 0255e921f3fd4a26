-- Document 02, W14: 'one line of exact whole numbers parted by tabs', ended by a line feed.
use Rattle.std.specs.Prelude.{ℕ, List, [], ◌∷◌, get_or, map, Option, None, Some}
use Rattle.text.specs.Decimal.{digits}
use Rattle.text.specs.Line.{line}
use Rattle.season_report.specs.declared.LargestError.{LargestError}
use Rattle.season_report.specs.declared.Season.{Season}

-- 'If no job was accepted, the largest error, its job and its axis are printed as 0'
abbrev pub largest_numbers : Option LargestError → List ℕ
largest_numbers None = 0 ∷ 0 ∷ 0 ∷ []
largest_numbers (Some largest) = largest.error ∷ largest.job ∷ largest.axis ∷ []

-- 'jobs, how many ended settled, still and spent, how many were refused under each number 1 to 4, total turns, the largest r_i, the first job that
-- has it and the lowest axis number in that job that has it'
unfoldable pub season_numbers : Season → List ℕ
season_numbers s =
    s.jobs ∷ s.settled ∷ s.still ∷ s.spent ∷ get_or s.refused 0 0 ∷ get_or s.refused 1 0 ∷ get_or s.refused 2 0 ∷ get_or s.refused 3 0
    ∷ s.turns ∷ largest_numbers s.largest

unfoldable pub season_line : Season → List ℕ
season_line s = line (map digits (season_numbers s))
