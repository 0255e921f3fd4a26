-- What holds of every season that the constructor and the calls make: no figure wraps. There are 10,000 jobs of at most 448 turns each, and r_i is a
-- kept record's.
use Rattle.std.specs.Prelude.{ℕ, ◌*◌, ◌^◌, ◌≤◌, ◌<◌, get_or, IfSome}
use Rattle.limits.specs.Limits.{most_channels, most_jobs, turn_limit}
use Rattle.season_report.specs.declared.LargestError.{LargestError}
use Rattle.season_report.specs.declared.Season.{Season}
use Rattle.season_report.specs.declared.Season.TheInside.{Inside}

pub record LargestLimits (jobs : ℕ) (largest : LargestError) : Type 0 where
  pub error : largest.error < 2 ^ 63
  pub job : largest.job ≤ jobs
  pub axis : largest.axis ≤ most_channels

pub record SeasonLimits (s : Season) : Type 0 where
  pub jobs : s.jobs ≤ most_jobs
  pub settled : s.settled ≤ s.jobs
  pub still : s.still ≤ s.jobs
  pub spent : s.spent ≤ s.jobs
  pub refused : (i : ℕ) → get_or s.refused i 0 ≤ s.jobs
  pub turns : s.turns ≤ turn_limit * s.jobs
  pub largest : IfSome s.largest (LargestLimits s.jobs)

-- the fields are the figures
abbrev pub figures_in : Inside → Season
figures_in a =
    record {
      jobs = a.jobs;
      settled = a.settled;
      still = a.still;
      spent = a.spent;
      refused = a.refused;
      turns = a.turns;
      largest = a.largest;
    }
