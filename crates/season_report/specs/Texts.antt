-- The texts of a season one after another in one buffer, and the end of each. An end below the one before it or beyond the buffer gives 2, then
-- more than 10,000 ends 16.
use Rattle.std.specs.Prelude.{ℕ, ◌-◌, ◌≤◌, ◌≡◌, Bool, true, cond, ◌&&◌, List, [], ◌∷◌, Result, leb, drop, length, take}
use Rattle.integer.specs.Within.{within}
use Rattle.limits.specs.Limits.{most_jobs}
use Rattle.limits.specs.Unless.{unless}
use Rattle.text.specs.Written.{Writes}
use Rattle.refusal.specs.declared.Refusal.{Refusal}
use Rattle.season_report.specs.Figures.{text_figures}
use Rattle.season_report.specs.Season.{empty_season, season_from_under}
use Rattle.season_report.specs.Text.{season_line}
use Rattle.season_report.specs.declared.Season.{Season}

-- from a place on: each text stands from the end of the one before it to before its own end
unfoldable pub texts_from : ℕ → List ℕ → List ℕ → List (List ℕ)
texts_from start bytes [] = []
texts_from start bytes (end ∷ ends) = take (end - start) (drop start bytes) ∷ texts_from end bytes ends

unfoldable pub ends_within : ℕ → ℕ → List ℕ → Bool
ends_within start size [] = true
ends_within start size (end ∷ ends) = within start size end && ends_within end size ends

-- 2, then 16, or 0 for none
unfoldable pub ends_refusal : ℕ → List ℕ → ℕ
ends_refusal size ends = cond (ends_within 0 size ends) (unless (leb (length ends) most_jobs) 16 0) 2

-- the line of the season of these texts
unfoldable pub texts_line : List ℕ → List ℕ → List ℕ
texts_line bytes ends = season_line (text_figures (texts_from 0 bytes ends))

-- the season after these texts
unfoldable pub texts_season : List ℕ → List ℕ → Season
texts_season bytes ends = season_from_under most_jobs empty_season (texts_from 0 bytes ends)

-- the line is written, or refused 2, 16 or 12; it has at most 252 bytes
pub record WritesSeason (bytes ends entry exit : List ℕ) (r : Result ℕ Refusal) : Type 0 where
  pub writes : Writes (ends_refusal (length bytes) ends) (texts_line bytes ends) entry exit r
  pub few : ends_refusal (length bytes) ends ≡ 0 → length (texts_line bytes ends) ≤ 252
