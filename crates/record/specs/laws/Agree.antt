-- The record and the ledger, call by call: the same n, m, e, matrix and axes.
use Rattle.std.specs.Prelude.{◌≡◌, refl, Bool, true, false, cond, List, [], ◌∷◌, eqb, ℤ, Option, Some, None}
use Rattle.std.proofs.Common.{sym, subst, ◌∙◌, arith, eqb-true}
use Rattle.std.proofs.Math.Path.{ap}
use Prim.Native.Nat.{ℕ, suc, ◌-◌, ◌≤◌}
use Rattle.integer.specs.Matrix.{Matrix, Same}
use Rattle.ledger.specs.laws.Accepted.{accepted-under, load-accepted, samples-accepted, turn-accepted}
use Rattle.limits.specs.Limits.{entry_limit}
use Rattle.ledger.specs.Call.{Call, load, load_samples, turn, sweep_in, loose_pair, axis}
use Rattle.ledger.specs.laws.Orders.{once-in}
use Rattle.ledger.specs.Pairs.{Ordered, Each}
use Rattle.ledger.specs.Ledger as L
use Rattle.ledger.specs.Ledger.{Ledger, State, empty, loaded, accepted_under, ledger_step_under, size_of, turns_of, take, turn_pair, turn_pairs}
use Rattle.ledger.specs.Order.{pairs_in}
use Rattle.ledger.specs.Pairs.{Pair}
use Rattle.ledger.specs.Refusal.{refusal_of, refusal_under}
use Rattle.readings.specs.laws.Refusal.{are-readings}
use Rattle.turn.specs.laws.Congruence.{choose-same, turned_same, turned_axes-same}
use Rattle.turn.specs.Rotation.{rotation_of}
use Rattle.turn.specs.Turn.{at, turn_matrix, turn_axes}
use Rattle.record.specs.KeptWork.{KeptWork}
use Rattle.turn.specs.laws.InUse.{at-array, in_use-inside}
use Rattle.record.specs.laws.Turning.{same-n, work-keeps, works-same-n}
use Rattle.record.specs.Work.{chosen, work_by, work_pair, work_pairs}
use Rattle.choice.specs.declared.Turn.{Turn}
use Rattle.record.specs.laws.Fill.{at-rows_of, kept-flat_of}
use Rattle.record.specs.Flat.{kept_entry}
use Rattle.record.specs.Kept.{KeptSolver}
use Rattle.record.specs.Solver.{accepted_of_under, after_of_under, loaded_solver, samples_solver, swept_of, turned_of, work_of, worked_of}
use Rattle.record.specs.declared.solver.Solver.{Solver}
use Rattle.record.specs.declared.work.Work.{Work}

-- work and a ledger's state, below n
pub record AgreeWork (e : ℕ) (w : Work) (s : State) : Type 0 where
  pub size : s.n ≡ w.n
  pub shift : s.e ≡ e
  pub turns : w.m ≡ s.m
  pub matrix : Same w.n (at w.matrix) s.B
  pub axes : Same w.n (at w.axes) s.axes

module _ (e : ℕ) (w : Work) (s : State) (pair : Pair) (b : w.n ≤ 8) (k : KeptWork w) (a : AgreeWork e w s) (o : Ordered w.n pair) where
  by-choice : (choice : Option Turn) → AgreeWork e (work_by w pair choice) (take s pair choice)
  unfolding work_by take turn_matrix turn_axes
  by-choice None = a
  by-choice (Some picked) =
      record {
        size = a.size;
        shift = a.shift;
        turns = ap suc a.turns;
        matrix = λ i j h g. at-array w.n _ (at w.matrix) b k.outside i j ∙ in_use-inside w.n _ i j h g
            ∙ turned_same w.n pair.p pair.q o.ordered o.within (at w.matrix) s.B a.matrix (rotation_of picked.l picked.minus) i j h g;
        axes = λ i j h g. at-array w.n _ (at w.axes) b k.axes-outside i j ∙ in_use-inside w.n _ i j h g
            ∙ turned_axes-same w.n pair.p pair.q o.ordered o.within (at w.axes) s.axes a.axes (rotation_of picked.l picked.minus) i j h g;
      }

  agree-pair : AgreeWork e (work_pair w pair) (turn_pair s pair)
  unfolding work_pair turn_pair chosen
  agree-pair =
      rw (choose-same w.n pair.p pair.q o.ordered o.within (at w.matrix) s.B a.matrix) (by-choice _)

agree-pairs : (e : ℕ) (w : Work) (s : State) (pairs : List Pair) → w.n ≤ 8 → KeptWork w → AgreeWork e w s → Each w.n pairs →
    AgreeWork e (work_pairs w pairs) (turn_pairs s pairs)
unfolding work_pairs turn_pairs Each
agree-pairs e w s [] b k a each = a
agree-pairs e w s (pair ∷ pairs) b k a each =
    agree-pairs e (work_pair w pair) (turn_pair s pair) pairs (rw same-n b)
    (work-keeps w pair b k each.0.ordered each.0.within)
    (agree-pair e w s pair b k a each.0) (rw same-n each.1)

-- 'The kept matrix and axes are the record's a and v; they equal B and V'
pub record Agree (r : Solver) (s : State) : Type 0 where
  pub size : r.n ≡ s.n
  pub turns : r.m ≡ s.m
  pub shift : r.e ≡ s.e
  pub matrix : Same s.n (kept_entry r.a) s.B
  pub axes : Same s.n (kept_entry r.v) s.axes

unfoldable pub Agrees : Solver → Ledger → Type 0
Agrees r empty = r.n ≡ 0
Agrees r (loaded s) = Agree r s

-- from the record to its work, and back
at-work : (r : Solver) (s : State) → r.n ≤ 8 → Agree r s → AgreeWork r.e (work_of r) s
unfolding work_of
at-work r s b a =
    record {
      size = sym a.size;
      turns = a.turns;
      shift = sym a.shift;
      matrix = λ i j h g. at-rows_of r.a i j (omega arith) (omega arith) ∙ a.matrix i j (rw a.size at h) (rw a.size at g);
      axes = λ i j h g. at-rows_of r.v i j (omega arith) (omega arith) ∙ a.axes i j (rw a.size at h) (rw a.size at g);
    }

from-work : (r : Solver) (w : Work) (s : State) → w.n ≡ r.n → r.n ≤ 8 → AgreeWork r.e w s → Agree (worked_of r w) s
unfolding worked_of
from-work r w s same b a =
    record {
      size = sym (a.size ∙ same);
      turns = a.turns;
      shift = sym a.shift;
      matrix = λ i j h g. kept-flat_of (at w.matrix) i j (omega (arith, a.size, same)) (omega (arith, a.size, same))
          ∙ a.matrix i j (rw a.size at h) (rw a.size at g);
      axes = λ i j h g. kept-flat_of (at w.axes) i j (omega (arith, a.size, same)) (omega (arith, a.size, same))
          ∙ a.axes i j (rw a.size at h) (rw a.size at g);
    }

-- a refusal is of n and m alone, and where there is no matrix of n alone
no-matrix : (limit m : ℕ) (call : Call) → refusal_under limit 0 m call ≡ refusal_under limit 0 0 call
unfolding refusal_under
no-matrix limit m (load n numbers) = refl
no-matrix limit m (load_samples n dilutions counts) = refl
no-matrix limit m (turn p q) = refl
no-matrix limit m (sweep_in order) = refl
no-matrix limit m (loose_pair t) = refl
no-matrix limit m (axis i) = refl

same-refusal : (limit : ℕ) (r : Solver) (g : Ledger) (call : Call) → Agrees r g →
    refusal_under limit r.n r.m call ≡ refusal_under limit (size_of g) (turns_of g) call
unfolding Agrees size_of turns_of
same-refusal limit r empty call a = rw a (no-matrix limit r.m call)
same-refusal limit r (loaded s) call a = rw (a.size, a.turns)

agree-loaded : (n : ℕ) (numbers : List ℤ) (scattered : Matrix) (shift : ℕ) → n ≤ 8 →
    Agree (loaded_solver n numbers shift) (L.loaded_state n numbers scattered shift)
unfolding loaded_solver L.loaded_state
agree-loaded n numbers scattered shift b =
    record {
      size = refl;
      turns = refl;
      shift = refl;
      matrix = λ i j h g. kept-flat_of _ i j (omega arith) (omega arith) ∙ in_use-inside n _ i j h g;
      axes = λ i j h g. kept-flat_of _ i j (omega arith) (omega arith) ∙ in_use-inside n _ i j h g;
    }

ten-is-not-zero : ◌≡◌ {A = ℕ} 10 0 → ⊥
ten-is-not-zero z = omega arith

agree-accepted : (limit : ℕ) (r : Solver) (g : Ledger) (call : Call) → KeptSolver r → Agrees r g → refusal_of r.n r.m call ≡ 0 →
    Agrees (accepted_of_under limit r call) (accepted_under limit g call)
unfolding Agrees accepted_of_under accepted_under refusal_under turned_of swept_of samples_solver work_of L.plain_state L.samples_state
agree-accepted limit r g (load n numbers) k a e = agree-loaded n numbers _ 0 (load-accepted r.n r.m n numbers e).high
agree-accepted limit r g (load_samples n dilutions counts) k a e =
    agree-loaded n _ _ _ (are-readings n dilutions counts (samples-accepted r.n r.m n dilutions counts e)).channels
agree-accepted limit r empty (turn p q) k a e = absurd (ten-is-not-zero (rw a at e))
agree-accepted limit r (loaded s) (turn p q) k a e =
    let t = turn-accepted r.n r.m p q e in
    from-work r _ _ (same-n (work_of r) _) k.size
    (agree-pair r.e (work_of r) s (record { p = p - 1; q = q - 1 }) k.size k.work (at-work r s k.size a)
    (record { ordered = omega (arith, t.first, t.ordered); within = omega (arith, t.first, t.ordered, t.last) }))
agree-accepted limit r empty (sweep_in order) k a e = absurd (ten-is-not-zero (rw a at e))
agree-accepted limit r (loaded s) (sweep_in order) k a e =
    from-work r _ _ (works-same-n (work_of r) (pairs_in order r.n)) k.size
    (subst (λ n. AgreeWork r.e (work_pairs (work_of r) (pairs_in order r.n)) (turn_pairs s (pairs_in order n))) a.size
    (agree-pairs r.e (work_of r) s (pairs_in order r.n) k.size k.work (at-work r s k.size a)
    (once-in order r.n k.size).ordered))
agree-accepted limit r g (loose_pair t) k a e = a
agree-accepted limit r g (axis i) k a e = a

-- under any limit up to today's: what it accepts, today's does
pub agree-step : (limit : ℕ) → limit ≤ entry_limit → (r : Solver) (g : Ledger) (call : Call) → KeptSolver r → Agrees r g →
    Agrees (after_of_under limit r call) (ledger_step_under limit g call)
unfolding after_of_under ledger_step_under
agree-step limit below r g call k a = rw (← same-refusal limit r g call a) (by-refusal (eqb (refusal_under limit r.n r.m call) 0) refl)
  where
    by-refusal : (t : Bool) → eqb (refusal_under limit r.n r.m call) 0 ≡ t →
        Agrees (cond t (accepted_of_under limit r call) r) (cond t (accepted_under limit g call) g)
    by-refusal true e = agree-accepted limit r g call k a (accepted-under limit entry_limit below _ _ call (eqb-true _ _ e))
    by-refusal false e = a
