-- `solve::check_solve` meets its contract: the tests in their order.
use Rattle.std.proofs.Common.{◌≡◌, sym, ◌∙◌, ◌+◌, ◌*◌, ◌≤◌, arith}
use Rattle.std.proofs.lemmas.Result.{err_from_is_err_and}
use Rattle.ledger.specs.Call.{load}
use Rattle.ledger.specs.Refusal.{refusal_of}
use Rattle.ledger.specs.laws.Accepted.{load-accepted}
use Rattle.refusal.specs.laws.Judged.{judged-numbered, judged-taken}
use Rattle.text.specs.laws.Written.{not-judged}
use Rattle.field_axes.specs.Solution.{solve_refusal}
use Rattle.field_axes.specs.laws.Solvable.{numbers-few}
use Rattle.field_axes.proofs.Answered.{first-refused}
use Rattle.field_axes.proofs.RunRefusals.{buffer-short, limit-high, limit-low, none-refused, tolerance-high}
use Rattle.field_axes.proofs.solve.check_solve.Goals as goal
use Rattle.field_axes.proofs.solve.check_solve.Goals.{In_ok-check_load}

pub returns-in_err-check_load : goal.returns-in_err-check_load
unfolding solve_refusal
returns-in_err-check_load c =
    let p = err_from_is_err_and c.from_residual.result c.from_residual.ensures.1 in
    rw (p.1, p.2) (first-refused _ _ _ _ _ (sym c.in_err-check_load.was ∙ c.check_load.ensures))

-- a matrix that is not refused: its axes have few numbers
module _ (c : In_ok-check_load) where
  taken : refusal_of 0 0 (load c.args.n c.args.numbers.now) ≡ 0
  taken = not-judged _ _ _ (sym c.check_load.ensures ∙ c.in_ok-check_load.was)

  low : c.args.n ≤ 8
  low = (load-accepted 0 0 _ _ taken).high

  few : c.args.n * (c.args.n + 2) ≤ 80
  few = numbers-few _ low

pub returns-then-limit-lt-LEAST_SWEEPS : goal.returns-then-limit-lt-LEAST_SWEEPS
returns-then-limit-lt-LEAST_SWEEPS c =
    let t = taken (goal.at.returns-then-limit-lt-LEAST_SWEEPS c).In_ok-check_load in
    judged-numbered _ _ 2 (limit-low _ _ _ _ _ t c.if-limit-lt-LEAST_SWEEPS.true) (λ z. omega arith)

pub returns-then-limit-gt-MOST_SWEEPS : goal.returns-then-limit-gt-MOST_SWEEPS
returns-then-limit-gt-MOST_SWEEPS c =
    let t = taken (goal.at.returns-then-limit-gt-MOST_SWEEPS c).In_ok-check_load in
    judged-numbered _ _ 2 (limit-high _ _ _ _ _ t (omega arith) c.if-limit-gt-MOST_SWEEPS.true) (λ z. omega arith)

pub returns-then-tolerance-gt-TOLERANCE_LIMIT : goal.returns-then-tolerance-gt-TOLERANCE_LIMIT
returns-then-tolerance-gt-TOLERANCE_LIMIT c =
    let t = taken (goal.at.returns-then-tolerance-gt-TOLERANCE_LIMIT c).In_ok-check_load in
    judged-numbered _ _ 2 (tolerance-high _ _ _ _ _ t (omega arith) (omega arith) c.if-tolerance-gt-TOLERANCE_LIMIT.true) (λ z. omega arith)

pub overflow_add-n : goal.overflow_add-n
overflow_add-n c = record { fits = omega (arith, low (goal.at.overflow_add-n c).In_ok-check_load) }

pub overflow_mul-n : goal.overflow_mul-n
overflow_mul-n c = record { fits = omega (arith, few (goal.at.overflow_mul-n c).In_ok-check_load) }

pub overflow_add-n-2 : goal.overflow_add-n-2
overflow_add-n-2 c = record { fits = omega (arith, few (goal.at.overflow_add-n-2 c).In_ok-check_load) }

pub returns-then-size-n : goal.returns-then-size-n
returns-then-size-n c =
    let t = taken (goal.at.returns-then-size-n c).In_ok-check_load in
    judged-numbered _ _ 12 (buffer-short _ _ _ _ _ t (omega arith) (omega arith) (omega arith) c.if-size-n.true) (λ z. omega arith)

pub returns : goal.returns
returns c =
    let t = taken (goal.at.returns c).In_ok-check_load in
    judged-taken _ _ (sym (none-refused _ _ _ _ _ t (omega arith) (omega arith) (omega arith) c.if-size-n.false))
