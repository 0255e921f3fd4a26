-- Document 02, W7: 'a table .. from any other it is document 01's': a book's table is that of a job with an S line for each of its samples.
use Rattle.std.specs.Prelude.{◌≡◌, true, ℕ, Ok}
use Rattle.book.specs.Book.{counts_of, dilutions_of, samples_in}
use Rattle.book.specs.Calls.{book_refusal, make_table}
use Rattle.book.specs.Consistent.{Consistent}
use Rattle.book.specs.Done.{table_to}
use Rattle.book.specs.declared.Book.{Book}
use Rattle.job.specs.Job.{Job, accepted, job_of}
use Rattle.job_table.specs.JobTable.{samples_of, table_for}
use Rattle.job_text.specs.JobText.{job_text_of, job_with}
use Rattle.readings.specs.Ranges.{parameters_in_range}

-- the job of a book's samples, with a sweep limit and a tolerance, which a table does not depend on
abbrev pub job_with_those : Book → ℕ → ℕ → Job
job_with_those b limit tolerance = job_with b.n limit tolerance (dilutions_of (samples_in b)) (counts_of (samples_in b))

pub record TableOfJob (b : Book) (j : Job) : Type 0 where
  -- the text with those S lines is accepted as that job
  pub text : job_of (job_text_of j) ≡ accepted j
  pub samples : samples_of j ≡ samples_in b
  pub table : table_to b ≡ Ok (table_for j)

-- for every book that the calls make, where its table is not refused
abbrev pub SameTable : Type 0
SameTable = (b : Book) → Consistent b → book_refusal b.n b.summary.k make_table ≡ 0 → (limit tolerance : ℕ) →
    parameters_in_range b.n limit tolerance ≡ true → TableOfJob b (job_with_those b limit tolerance)
