-- What a call on a book ensures.
use Rattle.std.specs.Prelude.{◌≡◌, Result}
use Rattle.refusal.specs.Refusal.{judged}
use Rattle.refusal.specs.declared.Refusal.{Refusal}
use Rattle.scatter.specs.Table.{table_of}
use Rattle.scatter.specs.declared.table.Table.{Table}
use Rattle.book.specs.Book.{samples_in}
use Rattle.book.specs.Calls.{BookCall, book_after, book_answer, book_refusal, make_table}
use Rattle.book.specs.Consistent.{Consistent}
use Rattle.book.specs.declared.Book.{Book}
use Rattle.book.specs.declared.Changed.{Changed}

-- the answer, the book after the call, and that it is consistent again
pub record Changes (b : Book) (call : BookCall) (z : Changed) : Type 0 where
  pub answer : z.answer ≡ book_answer b call
  pub leaves : z.book ≡ book_after b call
  pub keeps : Consistent z.book

-- 'a table .. is document 01's', of the samples that remain
unfoldable pub table_to : Book → Result Table Refusal
table_to b = judged (book_refusal b.n b.summary.k make_table) (table_of b.n (samples_in b))
