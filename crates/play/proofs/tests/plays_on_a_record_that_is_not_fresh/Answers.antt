-- The test may play the first line: a fresh record is kept, and a text's start lies in the text.
use Rattle.std.proofs.Common.{arith}
use Rattle.play.specs.laws.Steps.{start-within}
use Rattle.play.proofs.tests.plays_on_a_record_that_is_not_fresh.Goals as goal

pub step-first-requires : goal.step-first-requires
step-first-requires g c = (omega arith, (c.new.ensures.keeps, rw c.start.ensures (start-within _)))
