-- What a call ensures: its answer, the record that it leaves, and that this record is kept.
use Rattle.std.specs.Prelude.{◌≡◌, true, ℕ, ◌-◌, List, ℤ, get_or}
use Rattle.ledger.specs.Bench.{NamedCall, by, is_bench}
use Rattle.ledger.specs.Call.{axis, loose_pair}
use Rattle.ledger.specs.Refusal.{refusal_of}
use Rattle.record.specs.declared.query.Answer.{Answer}
use Rattle.record.specs.Flat.{kept_entry}
use Rattle.record.specs.Kept.{Kept}
use Rattle.record.specs.Loose.{FirstLoose}
use Rattle.record.specs.Record.{answer_to, fresh, record_after, refused_by, row_to}
use Rattle.record.specs.Solver.{loaded_solver}
use Rattle.record.specs.declared.AxisAnswer.{AxisAnswer}
use Rattle.record.specs.declared.Record.{Record}

pub record Fresh (r : Record) : Type 0 where
  pub is : r ≡ fresh
  pub keeps : Kept r

-- how many calls of each bench were refused, that of bench b at the place b − 1
pub record GivesCounts (r : Record) (counts : List ℕ) : Type 0 where
  pub is : counts ≡ r.refused
  pub each : (bench : ℕ) → get_or counts (bench - 1) 0 ≡ refused_by r bench

pub record Done (r : Record) (c : NamedCall) (answer : Answer) (next : Record) : Type 0 where
  pub answers : answer ≡ answer_to r c
  pub leaves : next ≡ record_after r c
  pub keeps : Kept next

-- the record after the load of a table, its entries and its e, that is no call
abbrev pub loaded_record : Record → ℕ → List ℤ → ℕ → Record
loaded_record r n numbers e = record { solver = loaded_solver n numbers e; refused = r.refused }

pub record TableLoaded (r : Record) (n : ℕ) (numbers : List ℤ) (e : ℕ) (next : Record) : Type 0 where
  pub is : next ≡ loaded_record r n numbers e
  pub keeps : Kept next

-- the answer of a loose-pair call is named with what holds of it, where the call is not refused
pub record LooseDone (r : Record) (bench t : ℕ) (answer : Answer) (next : Record) : Type 0 where
  pub done : Done r (by bench (loose_pair t)) answer next
  pub holds : is_bench bench ≡ true → refusal_of r.solver.n r.solver.m (loose_pair t) ≡ 0 →
      FirstLoose r.solver.n (kept_entry r.solver.a) t answer

-- an axis call answers row i of v too
pub record AxisDone (r : Record) (bench i : ℕ) (answer : AxisAnswer) (next : Record) : Type 0 where
  pub answers : answer.value ≡ answer_to r (by bench (axis i))
  pub row : answer.row ≡ row_to r (by bench (axis i))
  pub leaves : next ≡ record_after r (by bench (axis i))
  pub keeps : Kept next
