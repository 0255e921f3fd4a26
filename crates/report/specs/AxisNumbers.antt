-- The numbers of an axis that stand before its row: a_ii and r_i, which an axis call answers.
use Rattle.std.specs.Prelude.{List, [], ◌∷◌, ℤ, pos}
use Rattle.record.specs.declared.query.Answer.{Answer}
use Rattle.record.specs.declared.query.Answer.TheVariants.{Loaded, SamplesLoaded, Turned, Swept, TournamentSwept, Pair, NoPair, Axis, Refused}

-- a_ii and r_i; of any other answer 0 and 0
unfoldable pub axis_values : Answer → List ℤ
axis_values Loaded = pos 0 ∷ pos 0 ∷ []
axis_values (SamplesLoaded e) = pos 0 ∷ pos 0 ∷ []
axis_values (Turned made) = pos 0 ∷ pos 0 ∷ []
axis_values (Swept made) = pos 0 ∷ pos 0 ∷ []
axis_values (TournamentSwept made) = pos 0 ∷ pos 0 ∷ []
axis_values (Pair p q) = pos 0 ∷ pos 0 ∷ []
axis_values NoPair = pos 0 ∷ pos 0 ∷ []
axis_values (Axis entry error) = entry ∷ pos error ∷ []
axis_values (Refused number) = pos 0 ∷ pos 0 ∷ []
