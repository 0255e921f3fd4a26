-- A run as a list of calls of bench 1 on a fresh record: none of them is refused, and they leave the run's record.
use Rattle.std.specs.Prelude.{◌≡◌, Bool, List, [], ◌∷◌, ◌++◌, ℤ, length, take}
use Rattle.std.proofs.Math.Path.{refl, sym, ap}
use Rattle.std.proofs.Common.{◌∙◌, add-zero, zero-add, arith, eq-eqb}
use Rattle.std.proofs.Math.Bool.{false}
use Prim.Native.Nat.{ℕ, zero, suc, ◌+◌, ◌-◌, ◌*◌, ◌/◌, ◌<◌, ◌≤◌}
use Rattle.ledger.specs.laws.Accepted as given
use Rattle.ledger.specs.declared.Order.TheVariants.{Cyclic}
use Rattle.ledger.specs.Bench.{NamedCall}
use Rattle.ledger.specs.Call.{Call, axis, load, load_samples, loose_pair, sweep}
use Rattle.ledger.specs.laws.Cyclic.{cyclic-length}
use Rattle.limits.specs.Limits.{entry_limit, tolerance_limit, most_sweeps}
use Rattle.ledger.specs.Pairs.{cyclic}
use Rattle.ledger.specs.Refusal.{refusal_of}
use Rattle.record.specs.laws.Accepted.{after-accepted, loose-pair-taken, sweep-taken, turns-suffice}
use Rattle.record.specs.laws.Loading.{load-refusal-alone}
use Rattle.record.specs.Done.{loaded_record}
use Rattle.record.specs.Record.{after, after_from, after_from_under, answer_to, fresh, is_refused, record_after}
use Rattle.record.specs.Solver.{accepted_of, accepted_of_under, loaded_solver, samples_solver, swept_of, work_of, worked_of}
use Rattle.record.specs.declared.Record.{Record}
use Rattle.record.specs.laws.Named.{own-answers, own-leaves, refused-answer}
use Rattle.record.specs.laws.Turning.{works-grow}
use Rattle.run.specs.laws.Course.{Course, settles, is-still, is-spent, sweeps-on, course}
use Rattle.readings.specs.Refusal.{samples_refusal}
use Rattle.readings.specs.Samples.{samples}
use Rattle.readings.specs.laws.Refusal.{are-readings, two-channels}
use Rattle.scatter.specs.Table.{scatter, shift, table_from_under, table_of, table_under}
use Rattle.scatter.specs.laws.Entries.{table-entries}
use Rattle.record.specs.Run.{Run, own, run_from}
use Rattle.run.specs.Run.{Allowed, run_after, table_run}
use Rattle.run.specs.Calls.{rounds, calls_of}

-- axis i, axis i + 1, .., `count` of them
unfoldable pub axes_from : ℕ → ℕ → List NamedCall
axes_from i zero = []
axes_from i (suc count) = own (axis i) ∷ axes_from (suc i) count

-- each call is accepted on the record as the last one left it
unfoldable pub NoneRefused : Record → List NamedCall → Type 0
NoneRefused r [] = Unit
NoneRefused r (c ∷ calls) = (is_refused (answer_to r c) ≡ false) × NoneRefused (record_after r c) calls

-- the calls of a run and of its report's A lines, 'for i = 1 to n'
pub record AsCalls (first : Call) (n t : ℕ) (z : Run) : Type 0 where
  pub accepted : NoneRefused fresh (calls_of first t z.sweeps ++ axes_from 1 n)
  pub leaves : after (calls_of first t z.sweeps) ≡ z.last
  pub axes-leave : after (calls_of first t z.sweeps ++ axes_from 1 n) ≡ z.last
  pub channels : z.last.solver.n ≡ n
  pub turns : z.last.solver.m ≤ z.sweeps * (n * (n - 1) / 2)

-- lists of calls, one after the other
after-++ : (r : Record) (xs ys : List NamedCall) → after_from r (xs ++ ys) ≡ after_from (after_from r xs) ys
unfolding after_from_under
after-++ r [] ys = refl
after-++ r (c ∷ xs) ys = after-++ (record_after r c) xs ys

none-refused-++ : (r : Record) (xs ys : List NamedCall) → NoneRefused r xs → NoneRefused (after_from r xs) ys → NoneRefused r (xs ++ ys)
unfolding NoneRefused after_from_under
none-refused-++ r [] ys h g = g
none-refused-++ r (c ∷ xs) ys h g = (h.0, none-refused-++ (record_after r c) xs ys h.1 g)

-- a call of the run's own that no refusal applies to
module _ (r : Record) (call : Call) (e : refusal_of r.solver.n r.solver.m call ≡ 0) where
  own-taken : is_refused (answer_to r (own call)) ≡ false
  own-taken = ap is_refused (own-answers r call) ∙ refused-answer r.solver call ∙ rw (eq-eqb (refusal_of r.solver.n r.solver.m call) 0 e)

  pub own-after : record_after r (own call) ≡ record { solver = accepted_of r.solver call; refused = r.refused }
  own-after = own-leaves r call e ∙ rw (after-accepted r.solver call e)

-- the axes
module _ (r : Record) (h : 1 ≤ r.solver.n) where
  axis-leaves : (i : ℕ) → refusal_of r.solver.n r.solver.m (axis i) ≡ 0 → record_after r (own (axis i)) ≡ r
  unfolding accepted_of_under
  axis-leaves i e = own-after r (axis i) e

  axes-accepted : (i count : ℕ) → 1 ≤ i → i + count ≤ r.solver.n + 1 →
      NoneRefused r (axes_from i count) × (after_from r (axes_from i count) ≡ r)
  unfolding NoneRefused axes_from after_from_under
  axes-accepted i zero k l = (tt, refl)
  axes-accepted i (suc count) k l =
      let e = given.axis-taken r.solver.n r.solver.m i k (omega arith) in
      let later = axes-accepted (suc i) count (omega arith) (omega arith) in (
        (own-taken r (axis i) e, rw (axis-leaves i e) later.0),
        ap (λ x. after_from x (axes_from (suc i) count)) (axis-leaves i e) ∙ later.1,
      )

-- with n channels and tolerance t, the record after some sweeps
module _ (n t : ℕ) (low : 1 ≤ n) (high : n ≤ 8) (h : t ≤ tolerance_limit) where
  record Swept (sweeps : ℕ) (r : Record) : Type 0 where
    channels : r.solver.n ≡ n
    turns : r.solver.m ≤ sweeps * (n * (n - 1) / 2)

  loose-leaves : (r : Record) → r.solver.n ≡ n → (is_refused (answer_to r (own (loose_pair t))) ≡ false) × (record_after r (own (loose_pair t)) ≡ r)
  unfolding accepted_of_under
  loose-leaves r e =
      let a = loose-pair-taken r.solver.n r.solver.m (omega (arith, e)) t h in
      (own-taken r (loose_pair t) a, own-after r (loose_pair t) a)

  sweep-leaves : (sweeps : ℕ) (r : Record) → Swept sweeps r → sweeps < most_sweeps →
      (is_refused (answer_to r (own sweep)) ≡ false) × Swept (suc sweeps) (record_after r (own sweep))
  unfolding accepted_of_under swept_of worked_of work_of
  sweep-leaves sweeps r s l = (own-taken r sweep a, rw (own-after r sweep a) (record { channels = s.channels; turns = grown }))
    where
      a : refusal_of r.solver.n r.solver.m sweep ≡ 0
      a = sweep-taken r.solver.n r.solver.m (omega (arith, s.channels)) Cyclic
          (rw s.channels (turns-suffice n r.solver.m sweeps high l s.turns))

      counted : length (cyclic r.solver.n) ≡ n * (n - 1) / 2
      counted = rw s.channels (cyclic-length n low)

      grown : (accepted_of r.solver sweep).m ≤ suc sweeps * (n * (n - 1) / 2)
      grown = omega (arith, works-grow (work_of r.solver) (cyclic r.solver.n), counted, s.turns)

  -- what the calls from here on do
  record Rounds (sweeps : ℕ) (r : Record) (z : Run) : Type 0 where
    more : ℕ
    counted : z.sweeps ≡ sweeps + more
    accepted : NoneRefused r (rounds t more)
    leaves : after_from r (rounds t more) ≡ z.last
    swept : Swept z.sweeps z.last

  stopped : (sweeps : ℕ) (r : Record) (z : Run) → Swept sweeps r → z.sweeps ≡ sweeps → z.last ≡ r → Rounds sweeps r z
  unfolding NoneRefused rounds after_from_under
  stopped sweeps r z s k e =
      record {
        more = 0;
        counted = k ∙ sym (add-zero sweeps);
        accepted = ((loose-leaves r s.channels).0, tt);
        leaves = (loose-leaves r s.channels).1 ∙ sym e;
        swept = rw (k, e) s;
      }

  course-rounds : {left sweeps : ℕ} {idle : Bool} {r : Record} {z : Run} → Course t left sweeps idle r z → Swept sweeps r →
      sweeps + left ≤ most_sweeps →
      Rounds sweeps r z
  unfolding NoneRefused rounds after_from_under
  course-rounds (settles e) s l = stopped _ _ _ s refl refl
  course-rounds (is-still e) s l = stopped _ _ _ s refl refl
  course-rounds (is-spent e) s l = stopped _ _ _ s refl refl
  course-rounds {sweeps = sweeps} {r = r} {z = z} (sweeps-on {left = later} e c) s l =
      let asked = loose-leaves r s.channels in
      let swept = sweep-leaves sweeps r s (omega arith) in
      let on = course-rounds c swept.1 (omega arith) in
      record {
        more = suc on.more;
        counted = on.counted ∙ omega arith;
        accepted = (asked.0, rw asked.1 (swept.0, on.accepted));
        leaves = ap (λ x. after_from (record_after x (own sweep)) (rounds t on.more)) asked.1 ∙ on.leaves;
        swept = on.swept;
      }

-- a load of n channels that is not refused, a sweep limit of at most 16, a tolerance within its range
pub record Begins (first : Call) (n limit t : ℕ) : Type 0 where
  pub low : 2 ≤ n
  pub high : n ≤ 8
  pub taken : refusal_of fresh.solver.n fresh.solver.m first ≡ 0
  pub channels : (accepted_of fresh.solver first).n ≡ n
  pub unturned : (accepted_of fresh.solver first).m ≡ 0
  pub sweeps : limit ≤ most_sweeps
  pub tolerance : t ≤ tolerance_limit

module _ (first : Call) (n limit t : ℕ) (b : Begins first n limit t) where
  some : 1 ≤ n
  some = omega (arith, b.low)

  loaded : Record
  loaded = record_after fresh (own first)

  loaded-swept : Swept n t some b.high b.tolerance 0 loaded
  unfolding loaded
  loaded-swept =
      rw (own-after fresh first b.taken) (record { channels = b.channels; turns = omega (arith, b.unturned) })

  run-rounds : Rounds n t some b.high b.tolerance 0 loaded (run_after first limit t)
  unfolding run_after loaded
  run-rounds = course-rounds n t some b.high b.tolerance (course t limit 0 false loaded) loaded-swept (omega (arith, b.sweeps))

  pub run-calls : AsCalls first n t (run_after first limit t)
  unfolding calls_of after after_from_under NoneRefused loaded
  run-calls =
      record {
        accepted = none-refused-++ fresh calls (axes_from 1 n) (own-taken fresh first b.taken, taken) (rw leaves axes.0);
        leaves = leaves;
        axes-leave = after-++ fresh calls (axes_from 1 n) ∙ ap (λ r. after_from r (axes_from 1 n)) leaves ∙ axes.1;
        channels = run-rounds.swept.channels;
        turns = run-rounds.swept.turns;
      }
    where
      z : Run
      z = run_after first limit t

      calls : List NamedCall
      calls = calls_of first t z.sweeps

      same : z.sweeps ≡ run-rounds.more
      same = run-rounds.counted ∙ zero-add run-rounds.more

      taken : NoneRefused loaded (rounds t z.sweeps)
      taken = rw same run-rounds.accepted

      leaves : after calls ≡ z.last
      leaves = ap (λ k. after_from loaded (rounds t k)) same ∙ run-rounds.leaves

      axes : NoneRefused z.last (axes_from 1 n) × (after_from z.last (axes_from 1 n) ≡ z.last)
      axes = axes-accepted z.last (omega (arith, some, run-rounds.swept.channels)) 1 n (omega arith) (omega (arith, run-rounds.swept.channels))

-- a load of a matrix, and of samples
pub matrix-begins : (n : ℕ) (numbers : List ℤ) (limit t : ℕ) → Allowed n numbers limit t → Begins (load n numbers) n limit t
unfolding accepted_of_under loaded_solver
matrix-begins n numbers limit t a =
    let l = given.load-accepted 0 0 n numbers a.matrix in
    record {
      low = l.low;
      high = l.high;
      taken = load-refusal-alone fresh.solver.n fresh.solver.m n numbers ∙ a.matrix;
      channels = refl;
      unturned = refl;
      sweeps = a.sweeps;
      tolerance = a.tolerance;
    }

pub samples-begin : (n : ℕ) (dilutions counts : List ℕ) (limit t : ℕ) → samples_refusal n dilutions counts ≡ 0 → limit ≤ most_sweeps →
    t ≤ tolerance_limit → Begins (load_samples n dilutions counts) n limit t
unfolding accepted_of_under loaded_solver samples_solver
samples-begin n dilutions counts limit t e sweeps tolerance =
    record {
      low = two-channels n dilutions counts e;
      high = (are-readings n dilutions counts e).channels;
      taken = given.samples-alone fresh.solver.n fresh.solver.m n dilutions counts ∙ e;
      channels = refl;
      unturned = refl;
      sweeps = sweeps;
      tolerance = tolerance;
    }

-- the run of a table is that of the samples that it is made from
pub table-run-is : (n : ℕ) (dilutions counts : List ℕ) (limit t : ℕ) → samples_refusal n dilutions counts ≡ 0 →
    (let table = table_of n (samples n dilutions counts) in
    table_run n (take (n * n) table.entries) table.e limit t ≡ run_after (load_samples n dilutions counts) limit t)
unfolding table_run run_after accepted_of_under samples_solver table_under table_from_under
table-run-is n dilutions counts limit t e =
    let ss = samples n dilutions counts in
    let taken = given.samples-alone fresh.solver.n fresh.solver.m n dilutions counts ∙ e in
    ap (run_from limit 0 false t)
    (ap (λ l. loaded_record fresh n l (shift (scatter n ss))) (table-entries n ss entry_limit)
    ∙ sym (own-after fresh (load_samples n dilutions counts) taken))
