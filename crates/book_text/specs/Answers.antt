-- What a call on a book prints.
use Rattle.std.specs.Prelude.{ℕ, zero, suc, ◌-◌, ◌*◌, List, [], ◌∷◌, ◌++◌, Result, Ok, Err, map, drop, length, take}
use Rattle.refusal.specs.Refusal.{number_of}
use Rattle.refusal.specs.declared.Refusal.{Refusal}
use Rattle.sums.specs.Sums.{sums_of}
use Rattle.sums.specs.declared.Sums.{Sums}
use Rattle.text.specs.Decimal.{digits}
use Rattle.text.specs.Line.{line}
use Rattle.job_table.specs.Table.{samples_text}
use Rattle.book.specs.Book.{samples_in}
use Rattle.book.specs.Calls.{BookCall, book_answer}
use Rattle.book.specs.declared.Book.{Book}
use Rattle.book.specs.declared.BookAnswer.{BookAnswer}
use Rattle.book.specs.declared.BookAnswer.TheVariants.{Begun, Added, Struck, Summed, Tabled}

-- the cross sums of channel i, counted from 0, with itself and those after it: they stand from 8 × i + i on
unfoldable pub cross_row : ℕ → List ℕ → ℕ → List ℕ
cross_row n cross i = take (n - i) (drop (9 * i) cross)

-- the first `count` of these rows, one after another
unfoldable pub cross_rows : ℕ → List ℕ → ℕ → List ℕ
cross_rows n cross zero = []
cross_rows n cross (suc i) = cross_rows n cross i ++ cross_row n cross i

-- `Z`, the number, the n channel sums, and the cross sums for i ≤ j, row after row
unfoldable pub sums_line : ℕ → Sums → List ℕ
sums_line n t = line ((90 ∷ []) ∷ map digits (t.k ∷ (take n t.channel ++ cross_rows n t.cross n)))

-- `N`; `A` and `K` with the number of samples now held; the sums or the table of the samples in the book; of a refused call `X` and its number
unfoldable pub answer_text : Result BookAnswer Refusal → Book → List ℕ
answer_text (Ok Begun) b = line ((78 ∷ []) ∷ [])
answer_text (Ok (Added k)) b = line ((65 ∷ []) ∷ digits k ∷ [])
answer_text (Ok (Struck k)) b = line ((75 ∷ []) ∷ digits k ∷ [])
answer_text (Ok Summed) b = sums_line b.n (sums_of (samples_in b))
answer_text (Ok Tabled) b = samples_text b.n (length (samples_in b)) (samples_in b)
answer_text (Err refusal) b = line ((88 ∷ []) ∷ digits (number_of refusal) ∷ [])

-- a call on the book b
unfoldable pub call_text : Book → BookCall → List ℕ
call_text b call = answer_text (book_answer b call) b
