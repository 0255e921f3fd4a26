-- What a season's calls ensure.
use Rattle.std.specs.Prelude.{ℕ, ◌≤◌, ◌≡◌, List, Result, length}
use Rattle.limits.specs.Limits.{most_jobs}
use Rattle.text.specs.Written.{Writes}
use Rattle.refusal.specs.declared.Refusal.{Refusal}
use Rattle.season_report.specs.Season.{season_after_under, taken_as_under}
use Rattle.season_report.specs.Text.{season_line}
use Rattle.season_report.specs.declared.Season.{Season}
use Rattle.season_report.specs.declared.Taken.{Taken}

pub record Takes (s : Season) (text : List ℕ) (z : Taken) : Type 0 where
  pub answer : z.answer ≡ taken_as_under most_jobs s text
  pub next : z.next ≡ season_after_under most_jobs s text

-- the line is written, or refused 12; it has at most 252 bytes
pub record WritesLine (s : Season) (entry exit : List ℕ) (r : Result ℕ Refusal) : Type 0 where
  pub writes : Writes 0 (season_line s) entry exit r
  pub few : length (season_line s) ≤ 252
