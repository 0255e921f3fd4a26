-- A job text answered by another text in a lent buffer: the answer, what the buffer then holds, and what a program prints. `f` is the text of a job.
use Rattle.std.specs.Prelude.{ℕ, ◌≤◌, ◌≡◌, cond, List, Result, Ok, Err, leb, length}
use Rattle.text.specs.Put.{fitted}
use Rattle.text.specs.Line.{line_x}
use Rattle.job.specs.Job.{Answer, Job, accepted, job_of, refused}
use Rattle.job.specs.declared.RefusedLine.{RefusedLine}
use Rattle.refusal.specs.Refusal.{numbered}

module _ (f : Job → List ℕ) where
  -- The text's length, or a refusal and its line. 'Report longer than the buffer' is of no line, and has 0
  unfoldable pub reply_by : Answer → ℕ → Result ℕ RefusedLine
  reply_by (refused number line) size = Err (record { refusal = numbered number; line = line })
  reply_by (accepted j) size = cond (leb (length (f j)) size) (Ok (length (f j))) (Err (record { refusal = numbered 12; line = 0 }))

  unfoldable pub reply_of : List ℕ → ℕ → Result ℕ RefusedLine
  reply_of text size = reply_by (job_of text) size

  -- The lent buffer: the text at its start, 'bytes past the report stay'; 'buffers stay' at a refusal
  unfoldable pub buffer_by : Answer → List ℕ → List ℕ
  buffer_by (refused number line) entry = entry
  buffer_by (accepted j) entry = fitted (f j) entry

  unfoldable pub buffer_of : List ℕ → List ℕ → List ℕ
  buffer_of text entry = buffer_by (job_of text) entry

  -- Whatever job it is, its text is short
  unfoldable pub Short : Answer → Type 0
  Short (refused number line) = Unit
  Short (accepted j) = length (f j) ≤ 2048

  -- What a program prints
  unfoldable pub printed_by : Answer → List ℕ
  printed_by (refused number line) = line_x number line
  printed_by (accepted j) = f j

  unfoldable pub printed_of : List ℕ → List ℕ
  printed_of text = printed_by (job_of text)

  -- The answer, every byte of the lent buffer, and that the text has at most 2048 bytes
  pub record Answers (a : Answer) (entry exit : List ℕ) (r : Result ℕ RefusedLine) : Type 0 where
    pub answer : r ≡ reply_by a (length entry)
    pub buffer : exit ≡ buffer_by a entry
    pub short : Short a

  -- The same of a job text
  pub record Replies (text entry exit : List ℕ) (r : Result ℕ RefusedLine) : Type 0 where
    pub answer : r ≡ reply_of text (length entry)
    pub buffer : exit ≡ buffer_of text entry
    pub short : Short (job_of text)
