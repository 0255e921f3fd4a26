-- What a request does on a record: its answer with its row, and the record after it.
use Rattle.std.specs.Prelude.{◌≡◌}
use Rattle.ledger.specs.Bench.{NamedCall}
use Rattle.record.specs.Kept.{Kept}
use Rattle.record.specs.Record.{answer_to, record_after, row_to}
use Rattle.record.specs.declared.AxisAnswer.{AxisAnswer}
use Rattle.record.specs.declared.Record.{Record}

unfoldable pub answer_for : Record → NamedCall → AxisAnswer
answer_for r call = record { value = answer_to r call; row = row_to r call }

pub record Answers (r : Record) (call : NamedCall) (z : AxisAnswer) (next : Record) : Type 0 where
  pub is : z ≡ answer_for r call
  pub leaves : next ≡ record_after r call
  pub keeps : Kept next
