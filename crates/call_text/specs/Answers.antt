-- The line that a call's answer prints.
use Rattle.std.specs.Prelude.{ℕ, true, false, List, [], ◌∷◌, map, take}
use Rattle.ledger.specs.Bench.{NamedCall}
use Rattle.record.specs.Record.{answer_to, record_after, row_to}
use Rattle.record.specs.declared.Record.{Record}
use Rattle.text.specs.Decimal.{digits, number}
use Rattle.refusal.specs.Refusal.{number_of}
use Rattle.record.specs.declared.query.Answer.{Answer}
use Rattle.record.specs.declared.query.Answer.TheVariants.{Loaded, SamplesLoaded, Turned, Swept, TournamentSwept, Pair, NoPair, Axis, Refused}
use Rattle.text.specs.Line.{line}
use Rattle.call_text.specs.declared.answer.Told.{Told}

-- `L`; `M` and e; `T` and 1 or 0; `W` or `O` and the number of turns; `Q` p q, or `Q` none; `A` a_ii r_i and the n numbers of row i; of a refused
-- call `X`, its number, and the four counts of refused calls
unfoldable pub shown_as : Answer → Told → List ℕ
shown_as Loaded t = line ((76 ∷ []) ∷ [])
shown_as (SamplesLoaded e) t = line ((77 ∷ []) ∷ digits e ∷ [])
shown_as (Turned true) t = line ((84 ∷ []) ∷ digits 1 ∷ [])
shown_as (Turned false) t = line ((84 ∷ []) ∷ digits 0 ∷ [])
shown_as (Swept k) t = line ((87 ∷ []) ∷ digits k ∷ [])
shown_as (TournamentSwept k) t = line ((79 ∷ []) ∷ digits k ∷ [])
shown_as (Pair p q) t = line ((81 ∷ []) ∷ digits p ∷ digits q ∷ [])
shown_as NoPair t = line ((81 ∷ []) ∷ (110 ∷ 111 ∷ 110 ∷ 101 ∷ []) ∷ [])
shown_as (Axis entry error) t = line ((65 ∷ []) ∷ number entry ∷ digits error ∷ map number (take t.n t.row))
shown_as (Refused refusal) t = line ((88 ∷ []) ∷ digits (number_of refusal) ∷ map digits t.refused)

unfoldable pub shown : Told → List ℕ
shown t = shown_as t.answer t

-- the answer of a call on the record r, with n and the counts after it
unfoldable pub told_of : Record → NamedCall → Told
told_of r c =
    record { answer = answer_to r c; row = row_to r c; n = (record_after r c).solver.n; refused = (record_after r c).refused }

unfoldable pub answer_line : Record → NamedCall → List ℕ
answer_line r c = shown (told_of r c)
