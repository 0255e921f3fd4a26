-- The text that is written is that of the table.
use Rattle.std.specs.Prelude.{◌+◌, ◌*◌, ◌≤◌, ◌≡◌, refl, ℕ, List, [], ◌∷◌, ◌++◌, map, ℤ, pos, length}
use Rattle.std.proofs.Common.{sym, ap, ◌∙◌, arith}
use Rattle.integer.specs.Matrix.{matrix_of}
use Rattle.integer.specs.laws.Padded.{padded-at}
use Rattle.integer.specs.laws.Tabulate.{tabulate-ext}
use Rattle.job.specs.Job.{Job}
use Rattle.job.specs.JobArrays.{JobArrays}
use Rattle.job.specs.Held.{Held, job_in}
use Rattle.job.specs.laws.Held.{channels-held, samples-held}
use Rattle.job_table.specs.JobTable.{samples_of, table_for}
use Rattle.scatter.specs.laws.Entries.{scatter-at}
use Rattle.readings.specs.Samples.{Sample}
use Rattle.scatter.specs.Table.{scatter, table_from_under, table_of, table_under}
use Rattle.scatter.specs.declared.table.Table.{Table}
use Rattle.text.specs.Line.{number_line}
use Rattle.text.specs.laws.Lines.{lines_same}
use Rattle.job_table.specs.inner.Done.{text_of_rows}
use Rattle.job_table.specs.inner.Rows.{table_rows}
use Rattle.job_table.specs.laws.Rows.{row-line}
use Rattle.job_table.specs.Table.{line_t, samples_text, table_text}

-- The numbers of the first line
unfoldable pub table_head : Job → List ℤ
table_head j = map pos (j.n ∷ length j.dilutions ∷ (table_for j).e ∷ [])

pub text-of-table : (j : Job) → j.n ≤ 8 → text_of_rows (table_head j) j.n (table_rows j.n (table_for j).scatter) ≡ table_text j
unfolding text_of_rows table_head table_for table_under table_from_under table_text line_t matrix_of
text-of-table j h =
    ap (λ lines. line_t j.n (length j.dilutions) (table_for j).e ++ lines)
    (lines_same j.n _ _
    (λ i a. row-line j.n (table_for j).scatter h i (omega arith)
    ∙ ap (λ (numbers : List ℤ). number_line 83 (pos (i + 1) ∷ numbers))
    (tabulate-ext j.n _ _
    (λ q b. padded-at 64 (pos 0) (scatter j.n (samples_of j)) (i * j.n + q) ∙ scatter-at j.n (samples_of j) i q a b))))

-- The same with the numbers of a job in arrays
pub text-of-arrays : (a : JobArrays) → Held a → (t : Table) → t ≡ table_for (job_in a)
    → text_of_rows (pos a.n ∷ pos a.k ∷ pos t.e ∷ []) a.n (table_rows a.n t.scatter) ≡ table_text (job_in a)
unfolding table_head job_in
text-of-arrays a h t e =
    rw e
    (ap (λ k. text_of_rows (pos a.n ∷ pos k ∷ pos (table_for (job_in a)).e ∷ []) a.n (table_rows a.n (table_for (job_in a)).scatter))
    (sym (samples-held a h))
    ∙ text-of-table (job_in a) (channels-held a h))

-- A job's text is that of its samples.
pub job-samples-text : (j : Job) → samples_text j.n (length j.dilutions) (samples_of j) ≡ table_text j
unfolding samples_text table_text
job-samples-text j = refl

-- The text that is written of a table of samples is theirs.
pub text-of-samples : (n k : ℕ) (ss : List Sample) → n ≤ 8 →
    text_of_rows (pos n ∷ pos k ∷ pos (table_of n ss).e ∷ []) n (table_rows n (table_of n ss).scatter) ≡ samples_text n k ss
unfolding text_of_rows table_under table_from_under samples_text line_t matrix_of
text-of-samples n k ss h =
    ap (λ lines. line_t n k (table_of n ss).e ++ lines)
    (lines_same n _ _
    (λ i a. row-line n (table_of n ss).scatter h i (omega arith)
    ∙ ap (λ (numbers : List ℤ). number_line 83 (pos (i + 1) ∷ numbers))
    (tabulate-ext n _ _ (λ q b. padded-at 64 (pos 0) (scatter n ss) (i * n + q) ∙ scatter-at n ss i q a b))))
