-- What a turn and a sweep answer is what they add to m: 'm counts turns made', 'The answer is how many turns it made'; and a load of samples answers
-- the e that the record then has.
use Rattle.std.specs.Prelude.{◌≡◌, refl, Bool, true, false, ℕ, ◌+◌, ◌-◌, List, Option, Some, None, is_some}
use Rattle.std.proofs.Common.{arith, eq-eqb}
use Rattle.choice.specs.declared.Turn.{Turn}
use Rattle.ledger.specs.Call.{load_samples, sweep_in, turn}
use Rattle.ledger.specs.Order.{pairs_in}
use Rattle.ledger.specs.Pairs.{Pair}
use Rattle.ledger.specs.declared.Order.{Order}
use Rattle.ledger.specs.declared.Order.TheVariants.{Cyclic, Tournament}
use Rattle.ledger.specs.Refusal.{refusal_of}
use Rattle.record.specs.Solver.{accepted_of_under, after_of, answer_of, loaded_solver, samples_solver, swept_in, swept_of}
use Rattle.record.specs.Solver.{turned_of, value_of, work_of, worked_of}
use Rattle.readings.specs.Samples.{samples}
use Rattle.scatter.specs.Table.{scatter, shift}
use Rattle.record.specs.Work.{work_by, work_pair}
use Rattle.record.specs.laws.Accepted.{after-accepted}
use Rattle.record.specs.laws.Turning.{works-least}
use Rattle.record.specs.declared.solver.Solver.{Solver}
use Rattle.record.specs.declared.work.Work.{Work}
use Rattle.record.specs.declared.query.Answer.TheVariants.{SamplesLoaded, Swept, TournamentSwept, Turned}

same_count : (order : Order) (j k : ℕ) → swept_in order j ≡ swept_in order k → j ≡ k
same_count Cyclic j k e = cc
same_count Tournament j k e = cc

-- the answer of each order
pub swept_as : (k : ℕ) → (swept_in Cyclic k ≡ Swept k) × (swept_in Tournament k ≡ TournamentSwept k)
swept_as k = (refl, refl)

-- a sweep that is not refused, in either order
pub sweep-counts : (r : Solver) (order : Order) → refusal_of r.n r.m (sweep_in order) ≡ 0 → (k : ℕ) →
    answer_of r (sweep_in order) ≡ swept_in order k → (after_of r (sweep_in order)).m ≡ r.m + k
unfolding answer_of value_of accepted_of_under swept_of worked_of work_of
sweep-counts r order e k a =
    let told = rw (eq-eqb (refusal_of r.n r.m (sweep_in order)) 0 e) at a in
    let counted = same_count order ((swept_of r order).m - r.m) k told in
    rw (after-accepted r (sweep_in order) e) (omega (arith, counted, works-least (work_of r) (pairs_in order r.n)))

-- 1 for a turn that was made
unfoldable pub made : Bool → ℕ
made true = 1
made false = 0

by-choice : (w : Work) (pair : Pair) (choice : Option Turn) (b : Bool) → Turned (is_some choice) ≡ Turned b →
    (work_by w pair choice).m ≡ w.m + made b
unfolding work_by made
by-choice w pair None b h = let e : false ≡ b = cc in rw (← e) (omega arith)
by-choice w pair (Some picked) b h = let e : true ≡ b = cc in rw (← e) (omega arith)

-- a turn call that is not refused
pub turn-counts : (r : Solver) (p q : ℕ) → refusal_of r.n r.m (turn p q) ≡ 0 → (b : Bool) → answer_of r (turn p q) ≡ Turned b →
    (after_of r (turn p q)).m ≡ r.m + made b
unfolding answer_of value_of accepted_of_under turned_of worked_of work_pair work_of
turn-counts r p q e b a =
    let told = rw (eq-eqb (refusal_of r.n r.m (turn p q)) 0 e) at a in
    rw (after-accepted r (turn p q) e) (by-choice (work_of r) (record { p = p - 1; q = q - 1 }) _ b told)

-- a load of samples that is not refused answers the e that the record then has
pub samples-shift : (r : Solver) (n : ℕ) (dilutions counts : List ℕ) → refusal_of r.n r.m (load_samples n dilutions counts) ≡ 0 → (e : ℕ) →
    answer_of r (load_samples n dilutions counts) ≡ SamplesLoaded e → (after_of r (load_samples n dilutions counts)).e ≡ e
unfolding answer_of value_of accepted_of_under samples_solver loaded_solver
samples-shift r n dilutions counts taken e a =
    let told = rw (eq-eqb (refusal_of r.n r.m (load_samples n dilutions counts)) 0 taken) at a in
    let same : shift (scatter n (samples n dilutions counts)) ≡ e = cc in
    rw (after-accepted r (load_samples n dilutions counts) taken) same
