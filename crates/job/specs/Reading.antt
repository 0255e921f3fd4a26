-- An answer of `job_of` as the reader gives it: the job in arrays, or the refusal and its line.
use Rattle.std.specs.Prelude.{◌≡◌, List, ℕ, Result, Ok, Err}
use Rattle.refusal.specs.Refusal.{numbered}
use Rattle.job.specs.Held.{Held, in_arrays, job_in}
use Rattle.job.specs.Job.{Answer, refused, accepted, job_of}
use Rattle.job.specs.JobArrays.{JobArrays}
use Rattle.job.specs.declared.RefusedLine.{RefusedLine}

unfoldable pub reading_of : Answer → Result JobArrays RefusedLine
reading_of (refused number line) = Err (record { refusal = numbered number; line = line })
reading_of (accepted j) = Ok (in_arrays j)

-- What a text is read as, when it is accepted: the arrays hold the text's job.
pub record Read (text : List ℕ) (a : JobArrays) : Type 0 where
  pub held : Held a
  pub is : job_of text ≡ accepted (job_in a)
