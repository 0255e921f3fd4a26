-- `report::report_run` meets its contract: the text that is written is the report of the run.
use Prim.Native.Nat.{ℕ, ◌<◌, ◌^◌}
use mathlib.Core.Path.{◌≡◌, refl}
use mathlib.Core.List.{List, [], ◌∷◌}
use native.Mathlib.Omega.{arith}
use lib.IntN.{ℤ, pos}
use mir.Syntax.{w64}
use mir.Val.{SFits, of_z, to_z}
use mir.Facts.{to_z-of_z}
use Rattle.std.proofs.lemmas.Int.{to_z_pos}
use Rattle.record.specs.Run.{Run}
use Rattle.report.specs.inner.AxisNumbers.{axes_numbers}
use Rattle.report.specs.inner.AxisOrder.{ordered_rows}
use Rattle.text.specs.laws.Written.{short, written}
use Rattle.report.specs.inner.Text.{text_of}
use Rattle.report.specs.Done.{Reportable}
use Rattle.report.specs.Report.{head_of, run_report}
use Rattle.report.proofs.Same.{text_same}
use Rattle.report.proofs.report_run.Goals as goal

-- the numbers of a run that is over, as they are asked for
module _ (z : Run) (k : ℕ) (h : Reportable z k) {n : ℕ} (n-is : n ≡ z.last.solver.n) {axes listed : List (List ℤ)}
    (numbered : axes ≡ axes_numbers z.last) (ordered : listed ≡ ordered_rows n axes) where
  module _ {e m : ℕ} {shift : ℤ} (e-is : e ≡ z.last.solver.e) (shift-is : shift ≡ pos e) (m-is : m ≡ z.last.solver.m) (few : e < 2 ^ 32) where
    abbrev head : List ℤ
    head = to_z w64 n ∷ to_z w64 k ∷ to_z w64 (of_z w64 shift) ∷ to_z w64 z.sweeps ∷ to_z w64 m ∷ []

    head-same : head ≡ head_of k z
    unfolding head_of
    head-same =
        let f : SFits w64 (pos e) = record { sfits = omega (arith, few) } in
        rw (
          to_z_pos w64 n (omega (arith, n-is, h.keeps.solver.size)),
          to_z_pos w64 k (omega (arith, h.samples)),
          shift-is,
          to_z-of_z f,
          to_z_pos w64 z.sweeps (omega (arith, h.sweeps)),
          to_z_pos w64 m (omega (arith, m-is, h.keeps.solver.turns)),
          n-is,
          e-is,
          m-is,
        )

    report-text : text_of head z.outcome listed n ≡ run_report k z
    report-text = rw (head-same, ordered, numbered, n-is) (text_same k z h.keeps.solver.size)

pub ordered-requires : goal.ordered-requires
ordered-requires c = omega (arith, c.requires.keeps.solver.size)

pub invariant_of-lines : goal.invariant_of-lines
invariant_of-lines c = record { few = omega (arith, c.requires.keeps.solver.size) }

pub returns-then-buf-length : goal.returns-then-buf-length
returns-then-buf-length c =
    let e = report-text c.args.run c.args.k c.requires c.channels-n.ensures c.axes_numbers-axes.ensures c.ordered.ensures c.shift.ensures
    c.from.ensures c.turns.ensures (omega arith) in
    let sized = rw e at c.length.ensures in
    record { writes = short 0 _ c.args.buf.now refl (omega (arith, sized.exact)); short = omega (arith, sized.exact, sized.bounded) }

pub put-requires : goal.put-requires
put-requires c = omega (arith, c.length.ensures.exact)

pub returns : goal.returns
returns c =
    let e = report-text c.args.run c.args.k c.requires c.channels-n.ensures c.axes_numbers-axes.ensures c.ordered.ensures c.shift.ensures
    c.from.ensures c.turns.ensures (omega arith) in
    let sized = rw e at c.length.ensures in
    record {
      writes = written 0 _ c.args.buf.now refl (rw e at c.put.ensures);
      short = omega (arith, sized.exact, sized.bounded);
    }
