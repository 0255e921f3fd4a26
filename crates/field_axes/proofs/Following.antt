-- An axis that is written after the ones before it.
use Prim.Native.Nat.{ℕ, zero, suc, ◌+◌, ◌*◌, ◌<◌, ◌≤◌}
use mathlib.Core.Path.{◌≡◌, refl}
use mathlib.Core.List.{List, []}
use native.Mathlib.Nat.{le_refl, mul-le-mul}
use native.Mathlib.Omega.{arith}
use lib.IntN.{ℤ}
use lib.ListN.{drop, get_or, length, length-append, length-drop, take}
use lib.Seq.{length-take-le}
use Rattle.ledger.specs.Call.{axis}
use Rattle.report.specs.inner.AxisNumbers.{axes_numbers, axis_numbers}
use Rattle.report.specs.laws.AxisNumbers.{axes-row, two-before}
use Rattle.record.specs.Record.{answer_to, row_to}
use Rattle.record.specs.Run.{own}
use Rattle.record.specs.declared.Record.{Record}
use Rattle.text.specs.Put.{Put, part}
use Rattle.text.specs.laws.Put.{part-size}
use Rattle.text.specs.Rows.{Wide}
use Rattle.field_axes.specs.Solution.{axes, axis_solution}
use Rattle.field_axes.specs.inner.Solution.{used}

module _ (n : ℕ) (rows : List (List ℤ)) (few : n ≤ 8) (w : Wide rows) where
  pub length-row-used : (i : ℕ) → i < n → length (take (n + 2) (drop 1 (get_or rows i []))) ≡ n + 2
  length-row-used i h = length-take-le (n + 2) _ (rw (length-drop, w.wide i (omega arith)) (omega arith))

  length-used : (i : ℕ) → i ≤ n → length (used n rows i) ≡ i * (n + 2)
  unfolding used
  length-used zero h = omega arith
  length-used (suc i) h = simp (length-append, length-used i (omega arith), length-row-used i (omega arith)) (omega arith)

  pub room : (i : ℕ) {at : ℕ} {e x : List ℤ} → Put (used n rows i) 0 e x at → i < n → n * (n + 2) ≤ length e →
      n + 2 ≤ length (part (length x) at x)
  room i p h l =
      omega (
        arith,
        p.answer,
        length-used i (omega arith),
        part-size p,
        mul-le-mul {n₁ = i + 1} {m₁ = n + 2} {n₂ = n} {m₂ = n + 2} (omega arith) (le_refl (n + 2)),
      )

module _ (n : ℕ) (r : Record) (c : r.solver.n ≡ n) (few : n ≤ 8) where
  row-used : (i : ℕ) → i < n → take (n + 2) (drop 1 (get_or (axes_numbers r) i [])) ≡ axis_solution n r (suc i)
  unfolding axis_numbers axis_solution
  row-used i h =
      let e : n + 2 ≡ suc (suc n) = omega arith in
      rw (axes-row r i (omega arith) (omega arith), e)
      (two-before (answer_to r (own (axis (suc i)))) n (row_to r (own (axis (suc i)))))

  pub used-axes : (i : ℕ) → i ≤ n → used n (axes_numbers r) i ≡ axes n r i
  unfolding used axes
  used-axes zero h = refl
  used-axes (suc i) h = rw (used-axes i (omega arith), row-used i (omega arith))
