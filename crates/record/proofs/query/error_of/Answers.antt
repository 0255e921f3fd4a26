use Rattle.std.proofs.Common.{◌≡◌, ◌+◌, ◌*◌, ◌≤◌, refl, ap₂, add-one, arith, eqb, ltb}
use Rattle.choice.specs.Widest.{widest}
use Rattle.integer.specs.RoundedUp.{rounded_up}
use Rattle.integer.specs.Sum.{sumℕ}
use Rattle.integer.specs.laws.Tests.{cond-≤}
use Rattle.ledger.specs.Axis.{error_of, table_error}
use Rattle.limits.specs.Limits.{half_entry}
use Rattle.record.proofs.query.error_of.Goals as goal

pub loop-j-init : goal.loop-j-init
unfolding sumℕ
loop-j-init c = (refl, omega arith)

-- a column adds at most the largest entry
pub loop-j-preserved : goal.loop-j-preserved
unfolding sumℕ
loop-j-preserved c =
    let column : c.off_diagonal-sum.result ≤ widest =
    rw c.off_diagonal-sum.ensures (cond-≤ (eqb c.loop-j.j c.args.i) (omega arith) (c.requires.3.small c.args.i c.loop-j.j)) in
    (rw add-one (ap₂ ◌+◌ c.loop-j.invariant.0 c.off_diagonal-sum.ensures), omega (arith, column))

-- the rounding of the table adds half an entry for each of at most 8 channels
pub overflow_add-result-3 : goal.overflow_add-result-3
unfolding table_error
overflow_add-result-3 c =
    let gained : c.table_error.result ≤ half_entry * 8 =
    rw c.table_error.ensures (cond-≤ (ltb 0 c.args.e) (omega (arith, c.requires.1)) (omega arith)) in
    record { fits = omega (arith, gained) }

pub returns : goal.returns
unfolding error_of rounded_up
returns c =
    let all : c.loop-j.j ≡ c.args.n = omega arith in
    rw (c.loop-j.invariant.0, all, c.table_error.ensures)
