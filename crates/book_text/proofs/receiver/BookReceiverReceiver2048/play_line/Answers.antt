-- A book plays a line: it is left as the line's call leaves it.
use Rattle.book_text.proofs.Receiving.{a-call, call-keeps, no-call}
use Rattle.book_text.proofs.receiver.BookReceiverReceiver2048.play_line.Goals as goal

pub returns-in_err-done-clause-plays_line : goal.returns-in_err-done-clause-plays_line
returns-in_err-done-clause-plays_line c = no-call _ _ (rw c.in_err-done.was at c.play_line.ensures) c.from_residual.ensures

pub returns-clause-plays_line : goal.returns-clause-plays_line
returns-clause-plays_line c = a-call _ _ (rw c.in_ok-done.was at c.play_line.ensures)

pub returns-clause-keeps : goal.returns-clause-keeps
returns-clause-keeps c = call-keeps (rw c.in_ok-done.was at c.play_line.ensures)
