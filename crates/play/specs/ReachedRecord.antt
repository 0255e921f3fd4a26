-- A record and a cursor that the lines before the cursor have come to, from a fresh record and the text's start.
use Rattle.std.specs.Prelude.{ℕ, List}
use Rattle.record.specs.Record.{fresh}
use Rattle.record.specs.declared.Record.{Record}
use Rattle.play.specs.Steps.{Reached}
use Rattle.play.specs.Text.{record_plays}
use Rattle.play.specs.declared.cursor.Cursor.{Cursor}

pub record ReachedRecord (text : List ℕ) (r : Record) (here : Cursor) : Type 0 where
  pub before : List ℕ
  pub reached : Reached record_plays fresh text r here before
