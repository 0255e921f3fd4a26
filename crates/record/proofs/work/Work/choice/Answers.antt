use Rattle.turn.specs.Turn.{at}
use Rattle.turn.specs.laws.Size.{entry-back}
use Rattle.record.specs.Work.{chosen}
use Rattle.record.proofs.work.Work.choice.Goals as goal

pub choose_turn-requires : goal.choose_turn-requires
unfolding at
choose_turn-requires c =
    let s = c.args in
    let a = s.self.now.matrix in
    let h = c.requires.2 in
    rw (entry-back a h s.p s.p, entry-back a h s.q s.q, entry-back a h s.p s.q) (h.small s.p s.p, h.small s.q s.q, h.small s.p s.q)

pub returns : goal.returns
unfolding at chosen
returns c =
    let s = c.args in
    let a = s.self.now.matrix in
    let h = c.requires.2 in
    rw (entry-back a h s.p s.p, entry-back a h s.q s.q, entry-back a h s.p s.q) at c.choose_turn.ensures
