-- Document 01, 'A run takes a fresh record of its own, loads a matrix, then repeats ..': its outcome, the sweeps run and the record.
use Rattle.std.specs.Prelude.{◌≡◌, false, List, ℕ, ◌≤◌, ℤ}
use Rattle.ledger.specs.Call.{Call, load}
use Rattle.ledger.specs.Refusal.{refusal_of}
use Rattle.limits.specs.Limits.{most_sweeps, tolerance_limit}
use Rattle.record.specs.Kept.{Kept}
use Rattle.record.specs.Done.{loaded_record}
use Rattle.record.specs.Record.{fresh, record_after}
use Rattle.record.specs.Run.{Run, own, run_from}

-- from the record that a load leaves; before the first sweep there is no last sweep that made no turn
unfoldable pub run_after : Call → ℕ → ℕ → Run
run_after first limit t = run_from limit 0 false t (record_after fresh (own first))

-- of a matrix
abbrev pub run_of : ℕ → List ℤ → ℕ → ℕ → Run
run_of n numbers limit t = run_after (load n numbers) limit t

-- of a table, its entries and its e
unfoldable pub table_run : ℕ → List ℤ → ℕ → ℕ → ℕ → Run
table_run n numbers e limit t = run_from limit 0 false t (loaded_record fresh n numbers e)

-- what a run is for: a matrix that is not refused, a sweep limit of at most 16, a tolerance within its range
pub record Allowed (n : ℕ) (numbers : List ℤ) (limit t : ℕ) : Type 0 where
  pub matrix : refusal_of 0 0 (load n numbers) ≡ 0
  pub sweeps : limit ≤ most_sweeps
  pub tolerance : t ≤ tolerance_limit

-- what it ensures, of a matrix and of a table
pub record Runs (n : ℕ) (numbers : List ℤ) (limit t : ℕ) (z : Run) : Type 0 where
  pub is : z ≡ run_of n numbers limit t
  pub keeps : Kept z.last

pub record RunsTable (n : ℕ) (numbers : List ℤ) (e limit t : ℕ) (z : Run) : Type 0 where
  pub is : z ≡ table_run n numbers e limit t
  pub keeps : Kept z.last
