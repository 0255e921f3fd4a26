-- The figures of a season, as contracts see it.
use Rattle.std.specs.Prelude.{ℕ, List, Option}
use Rattle.season_report.specs.declared.LargestError.{LargestError}

pub record SeasonFigures : Type 0 where
  pub jobs : ℕ
  pub settled : ℕ
  pub still : ℕ
  pub spent : ℕ
  pub refused : List ℕ
  pub turns : ℕ
  pub largest : Option LargestError
