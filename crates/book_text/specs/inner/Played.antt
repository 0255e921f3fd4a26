-- What private functions promise of a call's line.
use Rattle.std.specs.Prelude.{ℕ, ◌*◌, ◌≤◌, ◌≡◌, List, [], ◌∷◌, map, ℤ, Option, Some, None, Result, Ok, Err}
use Rattle.refusal.specs.Refusal.{number_of}
use Rattle.refusal.specs.declared.Refusal.{Refusal}
use Rattle.text.specs.Decimal.{digits}
use Rattle.text.specs.Line.{further, line}
use Rattle.text.specs.Put.{Put}
use Rattle.book.specs.Calls.{BookCall, book_after}
use Rattle.book.specs.Consistent.{Consistent}
use Rattle.book.specs.declared.Book.{Book}
use Rattle.book.specs.declared.Changed.{Changed}
use Rattle.book.specs.declared.BookAnswer.{BookAnswer}
use Rattle.book.specs.declared.BookAnswer.TheVariants.{Begun, Added, Struck, Summed, Tabled}
use Rattle.readings.specs.Samples.{Sample}
use Rattle.scatter.specs.Table.{table_of}
use Rattle.scatter.specs.declared.table.Table.{Table}
use Rattle.job_table.specs.Table.{samples_text}
use Rattle.book_text.specs.Answers.{call_text}
use Rattle.call_text.specs.Calls.{argument}
use Rattle.book_text.specs.declared.call.BookPlay.{BookPlay}

-- each number after a tab
unfoldable pub naturals : List ℕ → List ℕ
naturals xs = further (map digits xs)

pub record NaturalsPut (xs : List ℕ) (most : ℕ) (entry exit : List ℕ) (r : ℕ) : Type 0 where
  pub puts : Put (naturals xs) 0 entry exit r
  pub bounded : r ≤ 21 * most

-- the line of an answer that has one number or none, or of a refusal
unfoldable pub short_text : Result BookAnswer Refusal → List ℕ
short_text (Ok Begun) = line ((78 ∷ []) ∷ [])
short_text (Ok (Added k)) = line ((65 ∷ []) ∷ digits k ∷ [])
short_text (Ok (Struck k)) = line ((75 ∷ []) ∷ digits k ∷ [])
short_text (Ok Summed) = []
short_text (Ok Tabled) = []
short_text (Err refusal) = line ((88 ∷ []) ∷ digits (number_of refusal) ∷ [])

-- the number of a call that has one
unfoldable pub number_alone : List ℤ → Option ℕ
number_alone [] = None
number_alone (x ∷ []) = Some (argument x)
number_alone (x ∷ y ∷ xs) = None

-- a call on the book b: the book after it, and what it prints
pub record Plays (b : Book) (call : BookCall) (z : BookPlay) : Type 0 where
  pub leaves : z.book ≡ book_after b call
  pub page : z.page ≡ call_text b call
  pub keeps : Consistent z.book

-- the call of a line, if it is one, on the book b
pub data PlaysCall (b : Book) : Option BookCall → Option BookPlay → Type 0 where
  no_call : PlaysCall b None None
  plays : {call : BookCall} {z : BookPlay} → Plays b call z → PlaysCall b (Some call) (Some z)

-- a table, on a page: where it is that of samples, their text
pub record TablePage (n k : ℕ) (table : Table) (r : List ℕ) : Type 0 where
  pub page : (ss : List Sample) → table ≡ table_of n ss → r ≡ samples_text n k ss

-- the book after a call, and the line of its answer
pub record ShortPlay (z : Changed) (r : BookPlay) : Type 0 where
  pub book : r.book ≡ z.book
  pub page : r.page ≡ short_text z.answer
