-- '`T` (the table's text, as `table` prints it)': that of a job with an `S` line for each sample of the book.
use Rattle.std.specs.Prelude.{ℕ, ◌≡◌, true}
use Rattle.std.proofs.Common.{sym, ap₂, ◌∙◌, eq-eqb}
use Rattle.refusal.specs.Refusal.{judged}
use Rattle.readings.specs.Ranges.{parameters_in_range}
use Rattle.job_table.specs.Table.{samples_text, table_text}
use Rattle.job_table.specs.laws.TextLaws.{job-samples-text}
use Rattle.book.specs.Book.{samples_in}
use Rattle.book.specs.Calls.{answer_then, book_answer, book_refusal, make_table}
use Rattle.book.specs.Consistent.{Consistent}
use Rattle.book.specs.declared.Book.{Book}
use Rattle.book.specs.laws.Book.{length-dilutions}
use Rattle.book_job.specs.SameTable.{job_with_those}
use Rattle.book_job.specs.laws.SameTable.{same-table}
use Rattle.book_text.specs.Answers.{answer_text, call_text}

pub table-printed : (b : Book) → Consistent b → book_refusal b.n b.summary.k make_table ≡ 0 → (limit tolerance : ℕ) →
    parameters_in_range b.n limit tolerance ≡ true → call_text b make_table ≡ table_text (job_with_those b limit tolerance)
unfolding call_text answer_text book_answer judged answer_then
table-printed b c e limit tolerance r =
    rw (eq-eqb (book_refusal b.n b.summary.k make_table) 0 e)
    (ap₂ (samples_text b.n) (sym (length-dilutions (samples_in b))) (sym (same-table b c e limit tolerance r).samples)
    ∙ job-samples-text (job_with_those b limit tolerance))
