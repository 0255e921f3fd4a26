-- Document 01, 'Job text and report': the report of a run, and of a job. What a job text is answered with, and what the lent buffer then holds, is
-- job/specs/Reply, of this text.
use Rattle.std.specs.Prelude.{ℕ, suc, List, [], ◌∷◌, ◌++◌, map, ℤ, pos, length, take}
use Rattle.job.specs.Job.{Job}
use Rattle.ledger.specs.Call.{Call, axis, load_samples}
use Rattle.report.specs.AxisNumbers.{axis_values}
use Rattle.report.specs.AxisOrder.{axis_at}
use Rattle.record.specs.Record.{answer_to, row_to}
use Rattle.record.specs.Run.{Run, own}
use Rattle.record.specs.Flat.{kept_entry}
use Rattle.record.specs.declared.Record.{Record}
use Rattle.run.specs.Word.{outcome_word}
use Rattle.run.specs.Run.{run_after}
use Rattle.text.specs.Line.{number_line, word_line}
use Rattle.text.specs.Lines.{lines}

-- '`R` n k e sweeps-run m outcome', of a run on the table of k samples: n, e and m are those of the record that it leaves; 82 is `R`
unfoldable pub head_of : ℕ → Run → List ℤ
head_of k z = map pos (z.last.solver.n ∷ k ∷ z.last.solver.e ∷ z.sweeps ∷ z.last.solver.m ∷ [])

unfoldable pub line_r : ℕ → Run → List ℕ
line_r k z = word_line 82 (head_of k z) (outcome_word z.outcome)

-- '`A` i a_ii r_i and row i of v'; 65 is `A`
unfoldable pub line_a : Record → ℕ → List ℕ
line_a r i = number_line 65 (pos i ∷ (axis_values (answer_to r (own (axis i))) ++ take r.solver.n (row_to r (own (axis i)))))

-- the diagonal entries, counted from 0
abbrev pub diagonal_of : Record → ℕ → ℤ
diagonal_of r i = kept_entry r.solver.a i i

-- document 02, W3: 'lists axes by their diagonal entry, largest first, equal entries in channel order'
unfoldable pub run_report : ℕ → Run → List ℕ
run_report k z =
    let r = z.last in
    let n = r.solver.n in
    line_r k z ++ lines (λ p. line_a r (suc (axis_at n (diagonal_of r) p))) n

-- A job's run starts from the record that the load of its samples leaves (document 02, W5)
abbrev pub load_for : Job → Call
load_for j = load_samples j.n j.dilutions j.counts

unfoldable pub run_for : Job → Run
run_for j = run_after (load_for j) j.limit j.tolerance

unfoldable pub report_of : Job → List ℕ
report_of j = run_report (length j.dilutions) (run_for j)
