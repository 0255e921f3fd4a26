-- A line of job text as the reader goes through it, from a place of the text on. `proofs/Records.antt` has that this is the reading of `Text`.
use Rattle.std.specs.Prelude.{ℕ, zero, suc, ◌+◌, Bool, cond, ◌&&◌, List, Option, None, Some, Result, Ok, Err, leb, ltb, eqb, length, get_or, set}
use Rattle.std.specs.Prelude.{replicate}
use Rattle.std.proofs.Math.Seq.{slice}
use Rattle.integer.specs.Within.{within, all_within}
use Rattle.job.specs.inner.FieldScan.{field_at, tagged_at}
use Rattle.job.specs.declared.field.Field.{Field}
use Rattle.job.specs.declared.field.Field.TheVariants.{Inner, Last, Bad}
use Rattle.readings.specs.Ranges.{parameters_in_range}
use Rattle.refusal.specs.declared.Refusal.{Refusal}
use Rattle.refusal.specs.declared.Refusal.TheVariants.{Malformed, OutOfRange, SampleCount, WrongEnd}
use Rattle.job.specs.declared.sample.Line.{Line}
use Rattle.job.specs.declared.first.Parameters.{Parameters}
use Rattle.limits.specs.Limits.{least_dilution, most_dilution, most_count, least_samples}

unfoldable pub last_number : List ℕ → ℕ → Field → Option Line
last_number numbers i (Inner v next) = None
last_number numbers i (Last v next) = Some (record { numbers = set numbers i v; next = next })
last_number numbers i Bad = None

unfoldable pub inner_number : Field → (ℕ → ℕ → Option Line) → Option Line
inner_number (Inner v next) go = go v next
inner_number (Last v next) go = None
inner_number Bad go = None

-- i numbers are read, and a tab follows each of the next m.
unfoldable pub numbers_at : List ℕ → List ℕ → ℕ → ℕ → ℕ → Option Line
numbers_at text numbers at i zero = last_number numbers i (field_at text at)
numbers_at text numbers at i (suc m) = inner_number (field_at text at) (λ v next. numbers_at text (set numbers i v) next (i + 1) m)

unfoldable pub line_at : List ℕ → ℕ → ℕ → ℕ → Option Line
line_at text at tag m = cond (tagged_at text at tag) (numbers_at text (replicate 9 0) (at + 2) 0 m) None

unfoldable pub sample_within : ℕ → List ℕ → Bool
sample_within n numbers = within least_dilution most_dilution (get_or numbers 0 0) && all_within 0 most_count (slice 1 (n + 1) numbers)

abbrev pub parameters_in : List ℕ → ℕ → Parameters
parameters_in xs next = record { n = get_or xs 0 0; limit = get_or xs 1 0; tolerance = get_or xs 2 0; next = next }

unfoldable pub parameters_of : Option Line → Result Parameters Refusal
parameters_of None = Err Malformed
parameters_of (Some line) =
    cond (parameters_in_range (get_or line.numbers 0 0) (get_or line.numbers 1 0) (get_or line.numbers 2 0))
    (Ok (parameters_in line.numbers line.next)) (Err OutOfRange)

unfoldable pub parameters_at : List ℕ → Result Parameters Refusal
parameters_at text = parameters_of (line_at text 0 80 2)

unfoldable pub ending_of : List ℕ → ℕ → Option Line → Result Unit Refusal
ending_of text k None = Err Malformed
ending_of text k (Some line) =
    cond (ltb k least_samples) (Err SampleCount) (cond (eqb (get_or line.numbers 0 0) k && leb (length text) line.next) (Ok (record {}))
    (Err WrongEnd))

unfoldable pub ending_at : List ℕ → ℕ → ℕ → Result Unit Refusal
ending_at text at k = ending_of text k (line_at text at 69 0)
