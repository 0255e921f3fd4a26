-- The certificate is proved: a run is a list of calls, and demand 3 speaks of every list of calls.
use Prim.Native.Nat.{ℕ, zero, suc, ◌-◌, ◌^◌, ◌≤◌, ◌<◌}
use mathlib.Core.Path.{◌≡◌, refl, ap, ap₂, ◌∙◌}
use mathlib.Core.Bool.{Bool, true, false, cond}
use mathlib.Core.List.{List, [], ◌∷◌, ◌++◌, map}
use native.Mathlib.Nat.{le_trans}
use native.Mathlib.Omega.{arith}
use lib.Dec.{eqb}
use lib.IntN.{ℤ, pos}
use lib.ListN.{length, take}
use borrow.Author.Tests.{eq-eqb}
use Rattle.integer.specs.Matrix.{Same}
use Rattle.integer.specs.Tabulate.{tabulate}
use Rattle.integer.specs.Within as range
use Rattle.integer.specs.laws.Matrix.{row-≤-squares}
use Rattle.integer.specs.laws.Tabulate.{take-tabulate}
use Rattle.job.proofs.Accepted.{accepted-proper}
use Rattle.job.specs.Job.{Job, accepted, job_of}
use Rattle.job.specs.Reply.{printed_by, printed_of}
use Rattle.job.specs.Values.{Proper}
use Rattle.job_table.specs.JobTable.{samples_of}
use Rattle.job.specs.laws.Proper.{channels, samples-taken}
use Rattle.ledger.specs.Axis.{error_of}
use Rattle.ledger.specs.Bench.{NamedCall, is_bench}
use Rattle.ledger.specs.Call.{axis, load_samples, loose_pair, sweep}
use Rattle.ledger.specs.laws.Accepted.{axis-taken, samples-alone}
use Rattle.ledger.specs.laws.Invariant.{SoundLedger, turn_pairs-continues}
use Rattle.ledger.proofs.Invariant.{sound}
use Rattle.ledger.specs.laws.Sound.{Sound}
use Rattle.ledger.specs.Ledger as book
use Rattle.ledger.specs.Ledger.{Ledger, State, empty, loaded, ledger, ledger_from, ledger_from_under, ledger_step, ledger_step_under, loaded_state}
use Rattle.ledger.specs.Ledger.{named_step_under, samples_state, size_of, turns_of}
use Rattle.ledger.specs.Near.{DirectionNear, RowNear, axes_difference}
use Rattle.ledger.specs.Pairs.{cyclic}
use Rattle.ledger.specs.Refusal.{refusal_of}
use Rattle.record.specs.Demand3 as three
use Rattle.record.specs.Demand3.{Certifies}
use Rattle.record.specs.Flat.{entries_of, kept_entry}
use Rattle.record.specs.Record.{answer_to, row_to}
use Rattle.record.specs.Run.{own}
use Rattle.record.specs.declared.Record.{Record}
use Rattle.record.specs.Solver.{axis_of}
use Rattle.record.proofs.Demand3proof.{demand-3}
use Rattle.record.specs.laws.Named.{own_row}
use Rattle.rounding.specs.Rounding.{rnd}
use Rattle.run.specs.Calls.{calls_of, rounds}
use Rattle.readings.specs.Refusal.{samples_refusal}
use Rattle.scatter.specs.Table.{S, scatter, shift}
use Rattle.limits.specs.Limits.{entry_limit}
use Rattle.scatter.specs.laws.Entries.{entries_at}
use Rattle.text.specs.Line.{number_line, word_line}
use Rattle.text.specs.Lines.{lines}
use Rattle.text.specs.laws.Lines.{lines_same}
use Rattle.turn.specs.Turn.{eight}
use Rattle.report.specs.AxisNumbers.{axis_values}
use Rattle.report.specs.AxisOrder.{ListsAxes, axis_at}
use Rattle.report.specs.Certificate.{Certificate, JobCertificate}
use Rattle.report.specs.Report.{diagonal_of, head_of, line_a, line_r, load_for, report_of, run_report, run_for}
use Rattle.run.specs.Word.{outcome_word}
use Rattle.report.specs.laws.AxisNumbers.{axis-answer}
use Rattle.report.proofs.AxisOrder.{the-order}
use Rattle.report.proofs.Bounds.{as-calls, run-channels}

-- a ledger whose state has these n, A, S and e
record Has (first : State) (g : Ledger) : Type 0 where
  state : State
  is : g ≡ loaded state
  size : state.n ≡ first.n
  given : state.A ≡ first.A
  scatter : state.S ≡ first.S
  shift : state.e ≡ first.e

module _ (first : State) where
  asked-has : (t : ℕ) (g : Ledger) → Has first g → Has first (ledger_step g (loose_pair t))
  unfolding ledger_step_under book.accepted_under
  asked-has t g h = by-refusal (eqb (refusal_of (size_of g) (turns_of g) (loose_pair t)) 0)
    where
      by-refusal : (b : Bool) → Has first (cond b g g)
      by-refusal true = h
      by-refusal false = h

  swept-has : (g : Ledger) → Has first g → Has first (ledger_step g sweep)
  unfolding ledger_step_under book.accepted_under
  swept-has g h = by-refusal (eqb (refusal_of (size_of g) (turns_of g) sweep) 0)
    where
      swept : Has first (book.accepted_under entry_limit g sweep)
      swept =
          let c = turn_pairs-continues h.state (cyclic h.state.n) in
          rw h.is (record {
            state = book.turn_pairs h.state (cyclic h.state.n);
            is = refl;
            size = c.size ∙ h.size;
            given = c.given ∙ h.given;
            scatter = c.scatter ∙ h.scatter;
            shift = c.shift ∙ h.shift;
          })

      by-refusal : (b : Bool) → Has first (cond b (book.accepted_under entry_limit g sweep) g)
      by-refusal true = swept
      by-refusal false = h

  rounds-have : (t sweeps : ℕ) (g : Ledger) → Has first g → Has first (ledger_from g (rounds t sweeps))
  unfolding rounds ledger_from_under named_step_under is_bench range.within
  rounds-have t zero g h = asked-has t g h
  rounds-have t (suc sweeps) g h = rounds-have t sweeps _ (swept-has _ (asked-has t g h))

run-has : (n : ℕ) (dilutions counts : List ℕ) (t sweeps : ℕ) → samples_refusal n dilutions counts ≡ 0 →
    Has (samples_state entry_limit n dilutions counts) (ledger (calls_of (load_samples n dilutions counts) t sweeps))
unfolding ledger calls_of ledger_from_under named_step_under is_bench range.within ledger_step_under size_of turns_of book.accepted_under
run-has n dilutions counts t sweeps e =
    rounds-have (samples_state entry_limit n dilutions counts) t sweeps (ledger_step empty (load_samples n dilutions counts)) begins
  where
    begins : Has (samples_state entry_limit n dilutions counts) (ledger_step empty (load_samples n dilutions counts))
    begins =
        rw (eq-eqb (refusal_of 0 0 (load_samples n dilutions counts)) 0 (samples-alone 0 0 n dilutions counts ∙ e))
        (record { state = samples_state entry_limit n dilutions counts; is = refl; size = refl; given = refl; scatter = refl; shift = refl })

-- r_i of a record, counted from 0
abbrev error_at : Record → ℕ → ℕ
error_at r = error_of r.solver.n r.solver.e (kept_entry r.solver.a) r.solver.m

-- line `A` i + 1, of n channels: what the axis call answers, and the row beside it
module _ (n : ℕ) (r : Record) (i : ℕ) (c : r.solver.n ≡ n) (h : n ≤ 8) (l : i < r.solver.n) where
  place : suc i - 1 ≡ i
  place = omega arith

  values-are : axis_values (answer_to r (own (axis (suc i)))) ≡ kept_entry r.solver.a i i ∷ pos (error_at r i) ∷ []
  unfolding axis_values
  values-are = rw (axis-answer r (suc i) (omega arith) (omega arith), place)

  row_is : take n (row_to r (own (axis (suc i)))) ≡ tabulate n (kept_entry r.solver.v i)
  unfolding axis_of entries_of eight tabulate
  row_is =
      rw (own_row r (suc i), eq-eqb _ 0 (axis-taken r.solver.n r.solver.m (suc i) (omega arith) (omega arith)), place)
      (take-tabulate n 8 (kept_entry r.solver.v i) [] h)

  line-is : line_a r (suc i) ≡ number_line 65 (pos (suc i) ∷ kept_entry r.solver.a i i ∷ pos (error_at r i) ∷ tabulate n (kept_entry r.solver.v i))
  unfolding line_a
  line-is =
      ap (λ k. number_line 65 (pos (suc i) ∷ (axis_values (answer_to r (own (axis (suc i)))) ++ take k (row_to r (own (axis (suc i))))))) c
      ∙ ap₂ (λ (values row : List ℤ). number_line 65 (pos (suc i) ∷ (values ++ row))) values-are row_is

module _ (j : Job) (p : Proper j) where
  abbrev calls : List NamedCall
  calls = calls_of (load_for j) j.tolerance (run_for j).sweeps

  abbrev last : Record
  last = (run_for j).last

  has : Has (samples_state entry_limit j.n j.dilutions j.counts) (ledger calls)
  has = run-has j.n j.dilutions j.counts j.tolerance (run_for j).sweeps (samples-taken j p)

  abbrev state : State
  state = has.state

  size_is : state.n ≡ j.n
  unfolding samples_state loaded_state
  size_is = has.size

  shift_is : state.e ≡ shift (scatter j.n (samples_of j))
  unfolding samples_state loaded_state samples_of
  shift_is = has.shift

  scatter-is : state.S ≡ S (samples_of j)
  unfolding samples_state loaded_state samples_of
  scatter-is = has.scatter

  three-holds : three.Certified last state
  unfolding Certifies
  three-holds = rw ((as-calls j p).leaves, has.is) at (demand-3 calls)

  state-sound : Sound state
  unfolding SoundLedger
  state-sound = rw has.is at (sound calls)

  table_is : Same j.n state.A (λ i k. rnd (S (samples_of j) i k) (2 ^ state.e))
  unfolding samples_state loaded_state samples_of
  table_is i k h g = rw (has.given, shift_is) (entries_at j.n (samples_of j) entry_limit i k h g)

  within : (i : ℕ) → i < j.n → i < last.solver.n
  within i l = rw (run-channels j p) l

  head-is : line_r (length j.dilutions) (run_for j) ≡
      word_line 82 (map pos (j.n ∷ length j.dilutions ∷ state.e ∷ (run_for j).sweeps ∷ state.m ∷ [])) (outcome_word (run_for j).outcome)
  unfolding line_r head_of
  head-is = rw (three-holds.turns, three-holds.shift, run-channels j p)

  -- demand 3's row bound, with the error that the line prints
  row_near : (i : ℕ) → i < j.n →
      RowNear j.n state.D state.P (S (samples_of j)) state.e i (kept_entry last.solver.a i i) (error_at last i)
  unfolding is_bench range.within
  row_near i l =
      let near = three-holds.rows-near (suc i) (omega arith) (rw size_is (omega arith)) in
      let answered = axis-answer last (suc i) (omega arith) (within i l) in
      let asked = near.answers 1 refl in
      let same : near.error ≡ error_at last (suc i - 1) = cc in
      let place : suc i - 1 ≡ i = omega arith in
      rw (same, place, size_is, scatter-is) at near.near

  -- one row of demand 3's bound of all axes
  direction-near : (i : ℕ) → i < j.n → DirectionNear j.n state.m state.D state.P (kept_entry last.solver.v) i
  direction-near i l =
      let row = row-≤-squares state.n (axes_difference state.D state.P (kept_entry last.solver.v)) i (rw size_is l) in
      rw size_is at (le_trans row three-holds.axes-near)

  listing : ListsAxes j.n (diagonal_of last) (axis_at j.n (diagonal_of last))
  listing = (the-order j.n (diagonal_of last)).0

  job-certificate : (text : List ℕ) → job_of text ≡ accepted j → JobCertificate text j
  unfolding printed_of printed_by report_of run_report
  job-certificate text e =
      record {
        e = state.e;
        sweeps = (run_for j).sweeps;
        outcome = (run_for j).outcome;
        entry = diagonal_of last;
        error = error_at last;
        direction = kept_entry last.solver.v;
        axis_on = axis_at j.n (diagonal_of last);
        state = state;
        printed =
            ap (printed_by report_of) e
            ∙ ap₂ ◌++◌ head-is
            (ap (λ n. lines (λ q. line_a last (suc (axis_at n (diagonal_of last) q))) n) (run-channels j p)
            ∙ lines_same j.n _ _ (λ q l. line-is j.n last (axis_at j.n (diagonal_of last) q) (run-channels j p) (channels j p).1
            (within (axis_at j.n (diagonal_of last) q) (listing.within q l))));
        listed = listing;
        fed = has.is;
        size = size_is;
        table = table_is;
        scatter = scatter-is;
        shift = refl;
        positive = state-sound.positive;
        orthogonal = rw size_is at state-sound.orthogonal;
        rows-near = row_near;
        directions-near = direction-near;
      }

pub certificate : Certificate
certificate text j e = job-certificate j (accepted-proper text j e) text e
