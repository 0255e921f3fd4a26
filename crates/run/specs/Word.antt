-- The word of an outcome in a line.
use Rattle.std.specs.Prelude.{ℕ, List, [], ◌∷◌}
use Rattle.record.specs.declared.run.Outcome.{Outcome}
use Rattle.record.specs.declared.run.Outcome.TheVariants.{Settled, Still, Spent}

-- The bytes of settled, still and spent
unfoldable pub outcome_word : Outcome → List ℕ
outcome_word Settled = 115 ∷ 101 ∷ 116 ∷ 116 ∷ 108 ∷ 101 ∷ 100 ∷ []
outcome_word Still = 115 ∷ 116 ∷ 105 ∷ 108 ∷ 108 ∷ []
outcome_word Spent = 115 ∷ 112 ∷ 101 ∷ 110 ∷ 116 ∷ []
