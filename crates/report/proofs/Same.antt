-- The text that is written is the report of a run: the R line's numbers and the A lines' are the run's.
use Prim.Native.Nat.{ℕ, suc, ◌+◌, ◌-◌, ◌<◌, ◌≤◌}
use mathlib.Core.Path.{◌≡◌, ap}
use mathlib.Core.Bool.{cond}
use mathlib.Core.List.{List, [], ◌∷◌, ◌++◌}
use native.Mathlib.Omega.{arith}
use borrow.Author.Tests.{lt-ltb}
use lib.Dec.{ltb}
use lib.IntN.{ℤ, pos}
use lib.ListN.{get_or, replicate}
use Rattle.ledger.specs.Call.{axis}
use Rattle.report.specs.inner.AxisNumbers.{axes_numbers, axis_numbers}
use Rattle.report.specs.AxisNumbers.{axis_values}
use Rattle.report.specs.AxisOrder.{axis_at}
use Rattle.report.specs.inner.AxisOrder.{entry_in, ordered_rows}
use Rattle.report.specs.laws.AxisNumbers.{axes-row, axis-answer, two-before}
use Rattle.report.specs.laws.AxisOrder.{same-axis}
use Rattle.report.proofs.AxisOrder.{axis-found}
use Rattle.turn.specs.laws.Eight.{get_d-eight}
use Rattle.record.specs.Record.{answer_to, row_to}
use Rattle.record.specs.Run.{Run, own}
use Rattle.record.specs.declared.Record.{Record}
use Rattle.text.specs.Line.{number_line}
use Rattle.text.specs.laws.Lines.{lines_same}
use Rattle.text.specs.Rows.{row_line}
use Rattle.report.specs.inner.Text.{text_of}
use Rattle.report.specs.Report.{diagonal_of, head_of, line_a, line_r, run_report}

module _ (r : Record) where
  abbrev n : ℕ
  n = r.solver.n

  -- the second number of an axis is its diagonal entry
  entry-is : (i : ℕ) → i < n → n ≤ 8 → entry_in (axes_numbers r) i ≡ diagonal_of r i
  unfolding axis_numbers axis_values
  entry-is i l h =
      let e : suc i - 1 ≡ i = omega arith in
      rw (axes-row r i l (omega arith), axis-answer r (suc i) (omega arith) (omega arith), e)

  listed-axis : n ≤ 8 → (p : ℕ) → axis_at n (entry_in (axes_numbers r)) p ≡ axis_at n (diagonal_of r) p
  listed-axis h p = same-axis n (entry_in (axes_numbers r)) (diagonal_of r) (λ i k. entry-is i k h) p

  -- the row in place p
  row_is : n ≤ 8 → (p : ℕ) → p < n → get_or (ordered_rows n (axes_numbers r)) p [] ≡ axis_numbers r (suc (axis_at n (diagonal_of r) p))
  unfolding ordered_rows
  row_is h p l =
      let i = axis_at n (diagonal_of r) p in
      let within = (axis-found n (diagonal_of r) p l).0 in
      rw (
        get_d-eight (λ k. cond (ltb k n) (get_or (axes_numbers r) (axis_at n (entry_in (axes_numbers r)) k) []) (replicate 11 (pos 0))) p []
            (omega arith),
        lt-ltb p n l,
        listed-axis h p,
      )
      (axes-row r i within (omega (arith, within)))

  line_same : (p : ℕ) → p < n → n ≤ 8 → row_line 65 (n + 3) (ordered_rows n (axes_numbers r)) p ≡ line_a r (suc (axis_at n (diagonal_of r) p))
  unfolding axis_numbers line_a
  line_same p l h =
      let e : n + 3 ≡ suc (suc (suc n)) = omega arith in
      let i = suc (axis_at n (diagonal_of r) p) in
      rw (row_is h p l, e)
      (ap (λ (l : List ℤ). number_line 65 (pos i ∷ l)) (two-before (answer_to r (own (axis i))) n (row_to r (own (axis i)))))

pub text_same : (k : ℕ) (z : Run) → z.last.solver.n ≤ 8 →
    text_of (head_of k z) z.outcome (ordered_rows z.last.solver.n (axes_numbers z.last)) z.last.solver.n ≡ run_report k z
unfolding text_of run_report line_r
text_same k z h = ap (λ l. line_r k z ++ l) (lines_same z.last.solver.n _ _ (λ p l. line_same z.last p l h))
