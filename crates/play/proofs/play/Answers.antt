-- `play` meets its contract: a fresh record is kept.
use Rattle.record.specs.laws.Named.{fresh_kept}
use Rattle.play.specs.Text.{played}
use Rattle.play.proofs.Passing.{plays_all}
use Rattle.play.proofs.play.Goals as goal

pub play_on-requires : goal.play_on-requires
play_on-requires c = rw c.new.ensures.is fresh_kept

pub returns : goal.returns
unfolding played
returns c = plays_all _ _ _ _ (rw c.new.ensures.is at c.play_on.ensures)
