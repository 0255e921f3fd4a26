use Rattle.std.proofs.Common.{rules, ◌≡◌, ℕ, ◌-◌, ◌<◌, ◌≤◌, ◌∙◌, ap, arith, eq-eqb, Ok, get_or, [], pos, w64}
use mir.Val.{SFits}
use Rattle.integer.specs.laws.Word.{word}
use Rattle.ledger.specs.Axis.{error_of}
use Rattle.ledger.specs.Call.{axis}
use Rattle.ledger.specs.Refusal.{refusal_of, refusal_under}
use Rattle.ledger.specs.laws.Accepted.{axis-accepted}
use Rattle.ledger.specs.laws.Axis.{same-error}
use Rattle.turn.specs.Turn.{at}
use Rattle.record.proofs.EndOfRun.{kept_small}
use Rattle.refusal.specs.Refusal.{judged}
use Rattle.refusal.specs.laws.Judged.{judged-err, judged-ok}
use Rattle.record.specs.Flat.{kept_entry}
use Rattle.record.specs.Solver.{answer_of, axis_of, value_of}
use Rattle.record.specs.declared.query.Answer.TheVariants.{Axis, Refused}
use Rattle.record.specs.laws.Fill.{at-rows_of}
use Rattle.record.proofs.solver.Solver.axis.Goals as goal

pub returns-in-Err : goal.returns-in-Err
unfolding answer_of refusal_under axis_of
returns-in-Err c = let f = judged-err _ _ _ c.in-Err.ensures in rw c.from.ensures (ap Refused f.1 ∙ rw f.0, rw f.0)

-- row i, counted from 0, is one of the eight
row-of : (n i : ℕ) → n ≤ 8 → Ok (tt {0}) ≡ judged (refusal_of n 0 (axis i)) (tt {0}) → (1 ≤ i) × (i - 1 < n) × (i - 1 < 8)
row-of n i few e = let names = axis-accepted n 0 i (judged-ok _ _ _ e).0 in (
  names.first,
  omega (arith, names.first, names.last),
  omega
      (arith, names.first, names.last),
)

pub overflow_sub-at : goal.overflow_sub-at
overflow_sub-at c = (row-of _ _ c.requires.size c.in_default.ensures).0

pub offset_bounds-matrix-at : goal.offset_bounds-matrix-at
offset_bounds-matrix-at c = record { fits = omega (arith, (row-of _ _ c.requires.size c.in_default.ensures).2) }

pub offset_bounds-matrix-at-2 : goal.offset_bounds-matrix-at-2
offset_bounds-matrix-at-2 c = record { fits = omega (arith, (row-of _ _ c.requires.size c.in_default.ensures).2) }

pub bounds-matrix-at : goal.bounds-matrix-at
bounds-matrix-at c = (row-of _ _ c.requires.size c.in_default.ensures).2

pub bounds-matrix-at-in_default : goal.bounds-matrix-at-in_default
bounds-matrix-at-in_default c = (row-of _ _ c.requires.size c.in_default.ensures).2

pub error_of-error-requires : goal.error_of-error-requires
error_of-error-requires c = (
  (row-of _ _ c.requires.size c.in_default.ensures).1,
  c.requires.size,
  c.requires.turns,
  rw c.unpacked-matrix.ensures (kept_small c.args.self c.requires),
)

pub row-requires : goal.row-requires
row-requires c = (row-of _ _ c.requires.size c.in_default.ensures).2

pub returns : goal.returns
unfolding answer_of refusal_under value_of axis_of at
returns c =
    let r = c.args.self in
    let i = c.args.i - 1 in
    let inside = (row-of _ _ c.requires.size c.in_default.ensures).2 in
    let f : SFits w64 (get_or (get_or c.unpacked-matrix.result i []) i (pos 0)) = search rules in
    let entry : at c.unpacked-matrix.result i i ≡ kept_entry r.a i i = rw c.unpacked-matrix.ensures (at-rows_of r.a i i inside inside) in
    let error-is : c.error_of-error.result ≡ error_of r.n r.e (kept_entry r.a) r.m i =
    c.error_of-error.ensures ∙ rw c.unpacked-matrix.ensures
    (same-error r.n r.e _ _ r.m i (λ j l. at-rows_of r.a i j inside (omega (arith, l, c.requires.size)))) in
    let test = eq-eqb (refusal_of r.n r.m (axis c.args.i)) 0 (judged-ok _ _ _ c.in_default.ensures).0 in
    ((λ k. Axis (word f entry k) (error-is k)) ∙ rw test, c.row.ensures ∙ rw test)
