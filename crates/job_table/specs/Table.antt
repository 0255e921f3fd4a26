-- The text of a job's table. What a job text is answered with, and what the lent buffer then holds, is job/specs/Reply, of this text.
use Rattle.std.specs.Prelude.{ℕ, ◌+◌, ◌≡◌, List, [], ◌∷◌, ◌++◌, map, ℤ, pos, length}
use Rattle.integer.specs.Tabulate.{tabulate}
use Rattle.job.specs.Job.{Job}
use Rattle.job_table.specs.JobTable.{samples_of}
use Rattle.readings.specs.Samples.{Sample}
use Rattle.scatter.specs.Table.{S, scatter, shift, table_of}
use Rattle.scatter.specs.declared.table.Table.{Table}
use Rattle.text.specs.Line.{number_line}
use Rattle.text.specs.Lines.{lines}
use Rattle.text.specs.Put.{Put}

-- `T` n k e; 84 is `T`
unfoldable pub line_t : ℕ → ℕ → ℕ → List ℕ
line_t n k e = number_line 84 (map pos (n ∷ k ∷ e ∷ []))

-- `S` i and n numbers: channel i is at the place i − 1. 83 is `S`
abbrev pub line_s : ℕ → (ℕ → ℕ → ℤ) → ℕ → List ℕ
line_s n f i = number_line 83 (pos (i + 1) ∷ tabulate n (f i))

-- 'then for i = 1 to n `S`, i and the n exact sums S_i1 .. S_in'
unfoldable pub table_text : Job → List ℕ
table_text j =
    line_t j.n (length j.dilutions) (shift (scatter j.n (samples_of j))) ++ lines (line_s j.n (S (samples_of j))) j.n

-- the same for k samples of n channels that stand in no job; of a job's samples it is the job's text (specs/laws/TextLaws, `job-samples-text`)
unfoldable pub samples_text : ℕ → ℕ → List Sample → List ℕ
samples_text n k ss = line_t n k (shift (scatter n ss)) ++ lines (line_s n (S ss)) n

-- a table, written: where it is that of samples, their text
pub record PutsTable (n k : ℕ) (table : Table) (entry exit : List ℕ) (r : ℕ) : Type 0 where
  pub puts : (ss : List Sample) → table ≡ table_of n ss → Put (samples_text n k ss) 0 entry exit r
