-- `report::axes::axis_numbers` meets its contract: what the axis call answers stands in the line.
use mathlib.Core.Path.{◌≡◌, refl, sym, ◌∙◌}
use Rattle.record.specs.Kept.{Kept}
use Rattle.record.specs.Run.{own}
use Rattle.record.specs.declared.Record.{Record}
use Rattle.record.specs.declared.query.Answer.{Answer}
use Prim.Native.Nat.{ℕ, ◌-◌, ◌<◌, ◌≤◌, ◌^◌}
use native.Mathlib.Omega.{arith}
use lib.IntN.{ℤ, pos}
use mir.Syntax.{w64}
use mir.Val.{SFits}
use mir.Facts.{to_z-of_z}
use borrow.Author.Rules.{rules}
use Rattle.ledger.specs.Axis.{error_of}
use Rattle.ledger.specs.Call.{axis}
use Rattle.record.specs.Record.{answer_to}
use Rattle.record.specs.Flat.{kept_entry}
use Rattle.record.specs.declared.query.Answer.TheVariants.{Axis}
use Rattle.report.specs.laws.AxisNumbers.{axis-answer, error-small, numbers-by}
use Rattle.report.proofs.axes.axis_numbers.Goals as goal

-- what the call answers, of a record, an axis and the entry and error that stand in the answer
module _ (r : Record) (i : ℕ) (k : Kept r) (first : 1 ≤ i) (last : i ≤ r.solver.n) (told : Answer) (answers : told ≡ answer_to r (own (axis i))) where
  abbrev error_here : ℕ
  error_here = error_of r.solver.n r.solver.e (kept_entry r.solver.a) r.solver.m (i - 1)

  answer-is : told ≡ Axis (kept_entry r.solver.a (i - 1) (i - 1)) error_here
  answer-is = answers ∙ axis-answer r i first last

  small : (entry : ℤ) (error : ℕ) → told ≡ Axis entry error → error < 2 ^ 63
  small entry error e =
      let same = sym e ∙ answer-is in
      let error-is : error ≡ error_here = cc in
      rw error-is (error-small r (i - 1) (omega (arith, first, last)) k)

pub overflow_cast-axis : goal.overflow_cast-axis
overflow_cast-axis c =
    record { sfits = small c.args.r c.args.i c.requires.0 c.requires.1 c.requires.2 _ c.own_axis-axis.ensures.0 _ _ refl }

pub returns : goal.returns
returns c =
    let f : SFits w64 (pos c.own_axis-axis.result.error) =
    record { sfits = small c.args.r c.args.i c.requires.0 c.requires.1 c.requires.2 _ c.own_axis-axis.ensures.0 _ _ refl } in
    let h : SFits w64 c.own_axis-axis.result.entry = search rules in
    let g : SFits w64 (pos c.args.i) = record { sfits = omega (arith, c.requires.2, c.requires.0.solver.size) } in
    c.numbers_of.ensures ∙ rw (to_z-of_z g, to_z-of_z h, to_z-of_z f)
    (numbers-by c.args.r c.args.i _ _ _ _ c.own_axis-axis.ensures.0 c.own_axis-axis.ensures.1 refl)
