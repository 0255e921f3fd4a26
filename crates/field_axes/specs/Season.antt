-- The refusals of a season of texts in one buffer.
use Rattle.std.specs.Prelude.{ℕ, List, length}
use Rattle.season_report.specs.Texts.{ends_refusal, texts_line}
use Rattle.text.specs.Written.{or_short}

-- 2 for an end, then 16 for their number, then 12 for a buffer of fewer bytes
abbrev pub season_refusal : List ℕ → List ℕ → ℕ → ℕ
season_refusal bytes ends size = or_short (ends_refusal (length bytes) ends) (length (texts_line bytes ends)) size
