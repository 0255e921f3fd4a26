-- `solve::put_solution` meets its contract: the first three numbers, and the axes after them.
use Rattle.std.proofs.Common.{ℕ, ◌≡◌, ◌<◌, ◌≤◌, ◌^◌, List, ℤ, pos, arith}
use mir.Facts.{to_z-of_z, to_z_pos}
use mir.Syntax.{w64}
use mir.Val.{SFits}
use borrow.Author.Rules.{rules}
use Rattle.integer.specs.laws.Word.{held}
use Rattle.ledger.specs.Call.{load}
use Rattle.report.specs.laws.AxisNumbers.{length-axes-row}
use Rattle.record.specs.Run.{Run}
use Rattle.run.specs.Run.{run_of}
use Rattle.run.specs.laws.Calls.{matrix-begins, run-calls}
use Rattle.run.specs.laws.Course.{run_ends}
use Rattle.text.specs.laws.Put.{part-size, put-part}
use Rattle.field_axes.specs.Solution.{solution, solution_of}
use Rattle.field_axes.specs.laws.Solvable.{channels}
use Rattle.field_axes.proofs.Following.{used-axes}
use Rattle.field_axes.proofs.solve.put_solution.Goals as goal

-- a run has few sweeps
few-sweeps : (n : ℕ) (numbers : List ℤ) (limit t : ℕ) (z : Run) → z ≡ run_of n numbers limit t → limit ≤ 16 → z.sweeps < 2 ^ 63
few-sweeps n numbers limit t z e h = rw e (omega (arith, (run_ends (load n numbers) limit t).within))

pub overflow_cast-head : goal.overflow_cast-head
overflow_cast-head c = held (pos _) (few-sweeps _ _ _ _ _ c.run-run.ensures.is c.requires.allowed.sweeps)

pub put_axes-requires : goal.put_axes-requires
put_axes-requires c = (
  channels _ _ _ _ _ c.requires,
  record { wide = rw c.axes_numbers-axes.ensures (length-axes-row _) },
  omega (arith, c.put-at.ensures.answer, part-size c.put-at.ensures, c.requires.room),
)

pub returns : goal.returns
unfolding solution_of solution
returns c =
    let a = c.args in
    let f : SFits w64 c.outcome_number.result = search rules in
    let begins = matrix-begins a.n a.numbers.now a.limit a.tolerance c.requires.allowed in
    let calls = run-calls (load a.n a.numbers.now) a.n a.limit a.tolerance begins in
    let few = channels _ _ _ _ _ c.requires in
    let axes-are = used-axes a.n (run_of a.n a.numbers.now a.limit a.tolerance).last calls.channels few a.n (omega arith) in
    let sweeps = few-sweeps _ _ _ _ _ c.run-run.ensures.is c.requires.allowed.sweeps in
    let turns : c.turns.result < 2 ^ 63 = omega (arith, c.run-run.ensures.keeps.solver.turns) in
    put-part
    (rw (to_z-of_z f, c.outcome_number.ensures, to_z_pos w64 sweeps, to_z_pos w64 turns, c.turns.ensures, c.run-run.ensures.is) at c.put-at.ensures)
    (rw (c.axes_numbers-axes.ensures, c.run-run.ensures.is, axes-are) at c.put_axes.ensures)
