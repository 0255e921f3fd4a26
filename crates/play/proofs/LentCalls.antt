-- What the calls on a lent record answer, as `play::call` gives it.
use mathlib.Core.Path.{◌≡◌, ◌∙◌}
use Prim.Native.Nat.{ℕ}
use lib.IntN.{pos}
use lib.ListN.{replicate}
use Rattle.ledger.specs.Bench.{NamedCall, by, is_bench}
use Rattle.ledger.specs.Call.{axis}
use Rattle.record.specs.Done.{AxisDone, Done}
use Rattle.record.specs.declared.AxisAnswer.{AxisAnswer}
use Rattle.record.specs.declared.Record.{Record}
use Rattle.record.specs.declared.query.Answer.{Answer}
use Rattle.integer.specs.laws.Tests.{cond_same}
use Rattle.record.specs.Record.{row_to}
use Rattle.record.specs.Solver.{row_of}
use Rattle.play.specs.inner.Calls.{Answers, answer_for}

pub answers-plain : (r : Record) (call : NamedCall) (y : Answer) (next : Record) (z : AxisAnswer) →
    row_of r.solver call.call ≡ replicate 8 (pos 0) → Done r call y next → z ≡ record { value = y; row = replicate 8 (pos 0) } → Answers r call z next
unfolding answer_for row_to
answers-plain r call y next z w d q =
    record { is = q ∙ rw (w, cond_same (is_bench call.bench) (replicate 8 (pos 0)), d.answers); leaves = d.leaves; keeps = d.keeps }

pub answers-axis : (r : Record) (bench i : ℕ) (z : AxisAnswer) (next : Record) → AxisDone r bench i z next → Answers r (by bench (axis i)) z next
unfolding answer_for
answers-axis r bench i z next d = record { is = λ j. record { value = d.answers j; row = d.row j }; leaves = d.leaves; keeps = d.keeps }
