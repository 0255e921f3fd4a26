-- Demand 3 is proved: the ledger is sound, and the record agrees with it; and a record of the former limit goes on.
use Rattle.std.specs.Prelude.{◌≡◌, refl, Bool, true, false, cond, List, [], ◌∷◌, ℕ, ◌*◌, ◌-◌, ◌≤◌, ◌<◌, pos, ◌-ℤ◌, ◌*ℤ◌}
use Rattle.std.proofs.Common.{ap, le_refl, arith}
use borrow.Author.Tests.{le-leb, lt-ltb}
use Rattle.integer.specs.Matrix.{conjugate, squares}
use Rattle.integer.specs.laws.Matrix.{squares-cong}
use Rattle.ledger.specs.Axis.{error_of}
use Rattle.ledger.specs.laws.Axis.{same-error}
use Rattle.ledger.specs.Bench.{NamedCall, is_bench}
use Rattle.ledger.specs.Call.{axis}
use Rattle.ledger.specs.laws.Invariant.{SoundLedger}
use Rattle.ledger.proofs.Invariant.{sound-named}
use Rattle.ledger.specs.Ledger.{Ledger, State, empty, loaded, ledger, ledger_from_under, ledger_step_under, named_step_under}
use Rattle.limits.specs.Limits.{entry_limit, units, whole}
use Rattle.limits.specs.laws.Values.{some-entry}
use Rattle.ledger.specs.Near.{matrix_difference, axes_difference}
use Rattle.ledger.specs.Refusal.{refusal_of, refusal_under}
use Rattle.ledger.proofs.Rows.{row_near}
use Rattle.ledger.specs.laws.Sound.{Sound}
use Rattle.record.specs.laws.Named.{fresh_kept, named-kept-under}
use Rattle.record.specs.laws.Agree.{Agree, Agrees, agree-step}
use Rattle.record.specs.Demand3.{AxisNear, Certified, Certifies, Demand-3, Goes_on}
use Rattle.record.specs.Flat.{kept_entry}
use Rattle.record.specs.Kept.{Kept}
use Rattle.record.specs.Record.{after, after_from_under, answer_to, called_under, fresh, record_after_under, row_to}
use Rattle.record.specs.Solver.{answer_of, axis_of, row_of, unloaded, value_of}
use Rattle.record.specs.declared.Record.{Record}

module _ (r : Record) (s : State) (a : Agree r.solver s) (h : Sound s) where
  error-agrees : (i : ℕ) → i < s.n →
      error_of r.solver.n r.solver.e (kept_entry r.solver.a) r.solver.m i ≡ error_of s.n s.e s.B s.m i
  error-agrees i l = rw (a.size, a.turns, a.shift) (same-error s.n s.e (kept_entry r.solver.a) s.B s.m i (λ j k. a.matrix i j l k))

  accepted : (i : ℕ) → 1 ≤ i → i ≤ s.n → refusal_of r.solver.n r.solver.m (axis i) ≡ 0
  unfolding refusal_under
  accepted i f l = rw (a.size, lt-ltb 0 s.n (omega (arith, h.low)), le-leb 1 i f, le-leb i s.n l)

  axis-near : (i : ℕ) → 1 ≤ i → i ≤ s.n → AxisNear r s i
  unfolding answer_to answer_of value_of row_to row_of axis_of
  axis-near i f l =
      record {
        error = error_of r.solver.n r.solver.e (kept_entry r.solver.a) r.solver.m (i - 1);
        answers = λ bench b. rw (b, accepted i f l);
        row = λ bench b. rw (b, accepted i f l);
        near = rw (error-agrees (i - 1) (omega arith), a.matrix (i - 1) (i - 1) (omega arith) (omega arith)) (row_near s h (i - 1) (omega arith));
      }

  same-matrix : squares s.n (matrix_difference s.n s.D s.P s.A (kept_entry r.solver.a)) ≡ squares s.n
      (matrix_difference s.n s.D s.P s.A s.B)
  same-matrix = squares-cong s.n
      (λ i j k l. ap (λ z. pos (s.D * s.D) *ℤ z -ℤ pos units *ℤ conjugate s.n s.P s.A i j) (a.matrix i j k l))

  same-axes : squares s.n (axes_difference s.D s.P (kept_entry r.solver.v)) ≡ squares s.n (axes_difference s.D s.P s.axes)
  same-axes = squares-cong s.n (λ i j k l. ap (λ z. pos s.D *ℤ z -ℤ pos whole *ℤ s.P i j) (a.axes i j k l))

  certified : Certified r s
  certified =
      record {
        held = omega (arith, a.size, h.low);
        size = a.size;
        turns = a.turns;
        shift = a.shift;
        matrix = a.matrix;
        axes = a.axes;
        matrix-near = rw same-matrix h.matrix-near;
        axes-near = rw same-axes h.axes-near;
        rows-near = axis-near;
      }

certifies : (r : Record) (g : Ledger) → Agrees r.solver g → SoundLedger g → Certifies r g
unfolding Agrees SoundLedger Certifies
certifies r empty a h = a
certifies r (loaded s) a h = certified r s a h

-- a record and a ledger as every list of calls leaves them, under any limit up to today's
pub record Holds (r : Record) (g : Ledger) : Type 0 where
  pub kept : Kept r
  pub agrees : Agrees r.solver g
  pub sound : SoundLedger g

agree-named : (limit : ℕ) → limit ≤ entry_limit → (r : Record) (g : Ledger) (c : NamedCall) → Kept r → Agrees r.solver g →
    Agrees (record_after_under limit r c).solver (named_step_under limit g c)
unfolding record_after_under called_under named_step_under
agree-named limit below r g c k a = by-bench (is_bench c.bench)
  where
    by-bench : (b : Bool) → Agrees (cond b (called_under limit r c) r).solver (cond b (ledger_step_under limit g c.call) g)
    by-bench true = agree-step limit below r.solver g c.call k.solver a
    by-bench false = a

from : (limit : ℕ) → 1 ≤ limit → limit ≤ entry_limit → (r : Record) (g : Ledger) (calls : List NamedCall) → Holds r g →
    Holds (after_from_under limit r calls) (ledger_from_under limit g calls)
unfolding after_from_under ledger_from_under
from limit some below r g [] h = h
from limit some below r g (c ∷ calls) h =
    from limit some below (record_after_under limit r c) (named_step_under limit g c) calls
    (record {
      kept = named-kept-under limit some below r c h.kept;
      agrees = agree-named limit below r g c h.kept h.agrees;
      sound = sound-named limit some below g c h.sound;
    })

begun : Holds fresh empty
unfolding Agrees SoundLedger fresh unloaded
begun = record { kept = fresh_kept; agrees = refl; sound = tt }

pub demand-3 : Demand-3
unfolding after ledger
demand-3 calls =
    let h = from entry_limit some-entry (le_refl entry_limit) fresh empty calls begun in
    certifies (after calls) (ledger calls) h.agrees h.sound

-- the list under the former limit, then that under today's
pub goes_on : Goes_on
goes_on limit old below before later =
    let h = from limit (omega (arith, old)) below fresh empty before begun in
    let k = from entry_limit some-entry (le_refl entry_limit) _ _ later h in
    (h.kept, certifies _ _ k.agrees k.sound)
