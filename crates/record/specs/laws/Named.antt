-- Calls that name a bench: what they leave is kept, an answer is a refusal exactly when a refusal applies, and what holds of every list of them.
use Rattle.std.specs.Prelude.{◌≡◌, Bool, eqb, ltb, nat_abs, length}
use Rattle.std.proofs.Math.Path.{refl}
use Rattle.std.proofs.Common.{◌∙◌, le_refl, length-set, eq-eqb}
use Rattle.std.proofs.Math.Bool.{true, false, cond, not}
use mathlib.Core.List.{List, [], ◌∷◌}
use Prim.Native.Nat.{ℕ, suc, ◌-◌, ◌≤◌}
use Rattle.integer.specs.Matrix.{Matrix}
use Rattle.integer.specs.Within.{within}
use Rattle.integer.specs.laws.Within.{is_within}
use Rattle.ledger.specs.Bench.{NamedCall, is_bench}
use Rattle.ledger.specs.Call.{Call, load, load_samples, turn, sweep_in, loose_pair, axis}
use Rattle.ledger.specs.Pairs.{Pair}
use Rattle.ledger.specs.Refusal.{refusal_of, refusal_under}
use Rattle.ledger.specs.declared.Order.TheVariants.{Cyclic, Tournament}
use Rattle.limits.specs.Limits.{benches, entry_limit}
use Rattle.limits.specs.laws.Values.{some-entry}
use Rattle.record.specs.Benches.{Outside-benches}
use Rattle.record.specs.Flat.{kept_entry}
use Rattle.record.specs.Kept.{Kept}
use Rattle.record.specs.Loose.{loose_of}
use Rattle.record.specs.Record.{answer_to, called_under, fresh, is_refused}
use Rattle.record.specs.Record.{raised, record_after, record_after_under, row_to}
use Rattle.record.specs.Run.{own}
use Rattle.record.specs.Solver.{accepted_of, after_of, after_of_under, answer_of, axis_of, row_of, value_of}
use Rattle.record.specs.declared.Record.{Record}
use Rattle.record.specs.declared.query.Answer.TheVariants.{Pair as PairIs, Refused}
use Rattle.record.specs.declared.solver.Solver.{Solver}
use Rattle.record.specs.laws.After.{after-kept-under, unloaded-kept}
use Rattle.refusal.specs.Refusal.{numbered}

raised-length : (bench : ℕ) (counts : List ℕ) → length (raised bench counts) ≡ length counts
unfolding raised
raised-length bench counts = length-set counts (bench - 1) _

-- a fresh record, and what a call leaves, under any limit up to today's
pub fresh_kept : Kept fresh
unfolding fresh
fresh_kept = record { solver = unloaded-kept; counts = refl }

module _ (limit : ℕ) (some : 1 ≤ limit) (below : limit ≤ entry_limit) (r : Record) (c : NamedCall) (k : Kept r) where
  counts-kept : (t : Bool) → length (cond t r.refused (raised c.bench r.refused)) ≡ benches
  counts-kept true = k.counts
  counts-kept false = raised-length c.bench r.refused ∙ k.counts

  by-bench-kept : (b : Bool) → Kept (cond b (called_under limit r c) r)
  unfolding called_under
  by-bench-kept true =
      record {
        solver = after-kept-under limit some below r.solver c.call k.solver;
        counts = counts-kept (eqb (refusal_under limit r.solver.n r.solver.m c.call) 0);
      }
  by-bench-kept false = k

  pub named-kept-under : Kept (record_after_under limit r c)
  unfolding record_after_under
  named-kept-under = by-bench-kept (is_bench c.bench)

pub named-kept : (r : Record) (c : NamedCall) → Kept r → Kept (record_after r c)
unfolding record_after_under
named-kept r c k = by-bench-kept entry_limit some-entry (le_refl entry_limit) r c k (is_bench c.bench)

-- 'a bench outside 1 to 4 gives 15 .. and raises no count'; a call of one of the four answers and does what the call does
module _ (r : Record) (c : NamedCall) where
  pub no-bench-answers : is_bench c.bench ≡ false → answer_to r c ≡ Refused (numbered 15)
  unfolding answer_to
  no-bench-answers e = rw e

  pub no-bench-leaves : is_bench c.bench ≡ false → record_after r c ≡ r
  unfolding record_after_under
  no-bench-leaves e = rw e

  outside : ((1 ≤ c.bench) × (c.bench ≤ benches) → ⊥) → is_bench c.bench ≡ false
  unfolding is_bench
  outside h = by (within 1 benches c.bench) refl
    where
      by : (t : Bool) → within 1 benches c.bench ≡ t → within 1 benches c.bench ≡ false
      by true e = absurd (h (is_within 1 benches c.bench e))
      by false e = e

  pub bench-answers : is_bench c.bench ≡ true → answer_to r c ≡ answer_of r.solver c.call
  unfolding answer_to
  bench-answers e = rw e

  pub bench-row : is_bench c.bench ≡ true → row_to r c ≡ row_of r.solver c.call
  unfolding row_to
  bench-row e = rw e

  pub bench-leaves : is_bench c.bench ≡ true → record_after r c ≡ called_under entry_limit r c
  unfolding record_after_under
  bench-leaves e = rw e

pub outside-benches : Outside-benches
unfolding answer_to record_after_under
outside-benches r c h = (rw (outside r c h), rw (outside r c h))

-- the calls of a run's own record
pub own-answers : (r : Record) (call : Call) → answer_to r (own call) ≡ answer_of r.solver call
unfolding is_bench within
own-answers r call = bench-answers r (own call) refl

pub own_row : (r : Record) (i : ℕ) → row_to r (own (axis i)) ≡ axis_of r.solver i
unfolding row_to row_of is_bench within
own_row r i = refl

pub own-leaves : (r : Record) (call : Call) → refusal_of r.solver.n r.solver.m call ≡ 0 →
    record_after r (own call) ≡ record { solver = after_of r.solver call; refused = r.refused }
unfolding is_bench within called_under
own-leaves r call e = bench-leaves r (own call) refl ∙ rw (eq-eqb (refusal_of r.solver.n r.solver.m call) 0 e)

-- queries leave the state as it is, refused or not
pub query-leaves : (s : Solver) (call : Call) → accepted_of s call ≡ s → after_of s call ≡ s
unfolding after_of_under
query-leaves s call e = by-refusal (eqb (refusal_of s.n s.m call) 0)
  where
    by-refusal : (b : Bool) → cond b (accepted_of s call) s ≡ s
    by-refusal true = e
    by-refusal false = refl

-- a call that no refusal applies to is answered by something else
loose-value : (a : Matrix) (t : ℕ) (pairs : List Pair) → is_refused (loose_of a t pairs) ≡ false
unfolding loose_of is_refused
loose-value a t [] = refl
loose-value a t (pair ∷ pairs) = by_size (ltb t (nat_abs (a pair.p pair.q))) (loose-value a t pairs)
  where
    by_size : (b : Bool) → is_refused (loose_of a t pairs) ≡ false →
        is_refused (cond b (PairIs (suc pair.p) (suc pair.q)) (loose_of a t pairs)) ≡ false
    by_size true later = refl
    by_size false later = later

value-given : (s : Solver) (call : Call) → is_refused (value_of s call) ≡ false
unfolding value_of is_refused
value-given s (load n numbers) = refl
value-given s (load_samples n dilutions counts) = refl
value-given s (turn p q) = refl
value-given s (sweep_in Cyclic) = refl
value-given s (sweep_in Tournament) = refl
value-given s (loose_pair t) = loose-value (kept_entry s.a) t _
value-given s (axis i) = refl

pub refused-answer : (s : Solver) (call : Call) → is_refused (answer_of s call) ≡ not (eqb (refusal_of s.n s.m call) 0)
unfolding answer_of is_refused
refused-answer s call = by-refusal (eqb (refusal_of s.n s.m call) 0)
  where
    by-refusal : (b : Bool) → is_refused (cond b (value_of s call) (Refused (numbered (refusal_of s.n s.m call)))) ≡ not b
    by-refusal true = value-given s call
    by-refusal false = refl
