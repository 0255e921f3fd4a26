-- A word has at most seven bytes.
use Rattle.std.specs.Prelude.{◌≤◌, length}
use Rattle.std.proofs.Common.{arith}
use Rattle.record.specs.declared.run.Outcome.{Outcome}
use Rattle.record.specs.declared.run.Outcome.TheVariants.{Settled, Still, Spent}
use Rattle.run.specs.Word.{outcome_word}

pub short-word : (outcome : Outcome) → length (outcome_word outcome) ≤ 7
unfolding outcome_word
short-word Settled = omega arith
short-word Still = omega arith
short-word Spent = omega arith
