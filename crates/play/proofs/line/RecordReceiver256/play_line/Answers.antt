-- A record plays a line: what is read is made a call on it, and said.
use Rattle.std.proofs.Common.{refl}
use Rattle.call_text.specs.Calls.{number_limit}
use Rattle.play.proofs.Reading.{a-call, no-call, read-samples, read_other}
use Rattle.play.proofs.line.RecordReceiver256.play_line.Goals as goal
use Rattle.play.proofs.line.RecordReceiver256.play_line.Goals.{in-LoadSamples, in_default}

pub returns-in_err-request-clause-plays_line : goal.returns-in_err-request-clause-plays_line
unfolding number_limit
returns-in_err-request-clause-plays_line c = no-call _ _ refl (rw c.in_err-request.was at c.read_line.ensures) c.from_residual.ensures

pub returns-clause-plays_line : goal.returns-clause-plays_line
unfolding number_limit
returns-clause-plays_line c =
    let k = rw c.in_ok-request.was at c.read_line.ensures in
    elim c.match-request.branch [
      | in-LoadSamples w ↦
          let a = rw w.in-LoadSamples.is at k in
          let d = read-samples _ _ _ _ _ c.read_line.new.numbers _ a.placed in
          a-call _ _ refl a d (rw (w.request-is, w.readings-is, w.put_readings.ensures) at c.call-answer.ensures) c.answered_line.ensures
      | in_default w ↦
          a-call _ _ refl k (read_other _ _ _ w.in_default.not-LoadSamples)
          (rw (w.request-is, w.readings-is) at c.call-answer.ensures) c.answered_line.ensures
    ]
