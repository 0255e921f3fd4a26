-- `step::step` meets its contract: whether another line follows picks the branch.
use Rattle.book_text.proofs.Stepping.{goes_on, stops}
use Rattle.book_text.proofs.step.step.Goals as goal

pub returns-in-Some : goal.returns-in-Some
returns-in-Some c =
    rw (c.place.ensures, c.number.ensures) (goes_on c.step_at-done.ensures.steps c.step_at-done.ensures.keeps _ c.in-Some.is)

pub returns-in-None : goal.returns-in-None
returns-in-None c = stops c.step_at-done.ensures.steps c.step_at-done.ensures.keeps c.requires.1 c.in-None.is
