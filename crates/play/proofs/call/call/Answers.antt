-- `play::call::call` meets its contract: a request is its call on the lent record.
use mathlib.Core.Path.{refl}
use Rattle.call_text.specs.Requests.{request_call}
use Rattle.record.specs.Solver.{row_of}
use Rattle.play.proofs.LentCalls.{answers-plain, answers-axis}
use Rattle.play.proofs.call.call.Goals as goal

pub returns-in-Load : goal.returns-in-Load
unfolding request_call row_of
returns-in-Load c = rw (c.in-Load.is) (answers-plain _ _ _ _ _ refl c.load.ensures c.from.ensures)

pub returns-in-LoadSamples : goal.returns-in-LoadSamples
unfolding request_call row_of
returns-in-LoadSamples c = rw (c.in-LoadSamples.is) (answers-plain _ _ _ _ _ refl c.load_samples.ensures c.from-in-LoadSamples.ensures)

pub returns-in-Turn : goal.returns-in-Turn
unfolding request_call row_of
returns-in-Turn c = rw (c.in-Turn.is) (answers-plain _ _ _ _ _ refl c.turn.ensures c.from-in-Turn.ensures)

pub returns-in-Sweep : goal.returns-in-Sweep
unfolding request_call row_of
returns-in-Sweep c = rw (c.in-Sweep.is) (answers-plain _ _ _ _ _ refl c.sweep.ensures c.from-in-Sweep.ensures)

pub returns-in-LoosePair : goal.returns-in-LoosePair
unfolding request_call row_of
returns-in-LoosePair c = rw (c.in-LoosePair.is) (answers-plain _ _ _ _ _ refl c.loose_pair.ensures.done c.from-in-LoosePair.ensures)

pub returns-in-TournamentSweep : goal.returns-in-TournamentSweep
unfolding request_call row_of
returns-in-TournamentSweep c = rw (c.in-TournamentSweep.is) (answers-plain _ _ _ _ _ refl c.tournament_sweep.ensures
    c.from-in-TournamentSweep.ensures)

pub returns-in-Axis : goal.returns-in-Axis
unfolding request_call
returns-in-Axis c = rw c.in-Axis.is (answers-axis _ _ _ _ _ c.axis.ensures)
