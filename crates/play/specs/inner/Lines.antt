-- What private functions promise of a line that is played on a record.
use Rattle.record.specs.declared.AxisAnswer.{AxisAnswer}
use Rattle.record.specs.declared.Record.{Record}
use Rattle.call_text.specs.declared.answer.Told.{Told}

unfoldable pub told_with : AxisAnswer → Record → Told
told_with answer r = record { answer = answer.value; row = answer.row; n = r.solver.n; refused = r.refused }
