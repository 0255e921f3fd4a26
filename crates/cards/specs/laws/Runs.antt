-- The runs of cards 5 and 12, computed.
use Rattle.std.specs.Prelude.{ℕ, ◌-◌, ◌+◌, ◌≤◌, ◌≡◌, refl, true, false, [], ◌∷◌, pos}
use Rattle.std.proofs.Common.{ap, ◌∙◌, arith}
use Rattle.choice.specs.Choice.{choose, fits, minus_sign, negative, smallest_fit}
use Rattle.choice.specs.Threshold.{threshold, u, w}
use Rattle.integer.specs.Matrix.{diagonal, matrix_of}
use Rattle.integer.specs.RoundedUp.{rounded_up}
use Rattle.integer.specs.Sum.{sumℕ}
use Rattle.integer.specs.Tabulate.{tabulate}
use Rattle.integer.specs.Within.{within}
use Rattle.ledger.specs.Axis.{error_of, table_error}
use Rattle.ledger.specs.Bench.{is_bench}
use Rattle.ledger.specs.Call.{axis, load, loose_pair, sweep}
use Rattle.ledger.specs.Pairs.{cyclic, row, rows_from}
use Rattle.ledger.specs.Refusal.{equal, refusal_under, symmetric, entries_within}
use Rattle.record.specs.Flat.{entries_of, flat_of, kept_entry, rows_of}
use Rattle.record.specs.Loose.{loose_of}
use Rattle.record.specs.Record.{answer_to, called_under, fresh, record_after, record_after_under, row_to}
use Rattle.record.specs.Solver.{accepted_of_under, after_of_under, answer_of, axis_of, loaded_solver}
use Rattle.record.specs.Solver.{row_of, swept_of, unloaded, value_of, work_of, worked_of}
use Rattle.record.specs.Work.{chosen, work_by, work_pair, work_pairs}
use Rattle.record.specs.declared.Record.{Record}
use Rattle.record.specs.declared.query.Answer.TheVariants.{Axis}
use Rattle.report.specs.AxisOrder.{axis_among, axis_at, place_of, stands_before}
use Rattle.report.specs.Report.{diagonal_of}
use Rattle.rounding.specs.Rounding.{rnd}
use Rattle.record.specs.Run.{Run, no_pair, no_turn, own, run_from, tried}
use Rattle.record.specs.declared.run.Outcome.TheVariants.{Spent, Still}
use Rattle.record.specs.laws.Running.{run-still, run-sweeps}
use Rattle.run.specs.Run.{run_after, run_of}
use Rattle.turn.specs.InUse.{in_use}
use Rattle.turn.specs.Rotation.{first, rotation_of, second}
use Rattle.integer.specs.Signed.{signed}
use Rattle.turn.specs.Turn.{array, at, at_pair, eight, hpp, hpq, hqp, hqq}
use Rattle.turn.specs.Turn.{newp, newpp, newpq, newq, newqq, turn_axes, turn_matrix, turned, turned_axes}
use Rattle.cards.specs.Cards.{neg, two_by_two}

-- card 5: the record before the sweep
abbrev stuck : Record
stuck = record_after fresh (own (load 2 (two_by_two (pos 0) (pos 1) (pos 1_048_576))))

-- its pair is loose before and after a sweep, which makes no turn
stays : (no_pair (answer_to stuck (own (loose_pair 0))) ≡ false) × (no_turn (answer_to stuck (own sweep)) ≡ true) ×
    (no_pair (answer_to (record_after stuck (own sweep)) (own (loose_pair 0))) ≡ false)
unfolding is_bench within answer_to record_after_under called_under no_pair no_turn answer_of value_of after_of_under accepted_of_under fresh unloaded
    loaded_solver in_use swept_of work_of worked_of loose_of tabulate kept_entry
    entries_of rows_of flat_of chosen work_by work_pair work_pairs cyclic rows_from row matrix_of equal symmetric entries_within refusal_under
    diagonal choose
    smallest_fit fits threshold rounded_up u w minus_sign negative eight at
stays = (refl, refl, refl)

pub still : (limit : ℕ) → 1 ≤ limit → (run_of 2 (two_by_two (pos 0) (pos 1) (pos 1_048_576)) limit 0).outcome ≡ Still
unfolding run_after
still limit h =
    ap (λ (run : Run). run.outcome)
    (run-sweeps limit 0 0 false stuck stays.0 refl (limit - 1) (omega arith)
    ∙ run-still (limit - 1) (0 + 1) 0 _ (record_after stuck (own sweep)) stays.2 stays.1)

-- card 12: the run of the three samples' table
abbrev pub three_run : Run
three_run = run_of 2 (two_by_two (pos 50) (pos 25) (pos 50)) 1 0

-- `spent`, 1 sweep, m = 1, the two axes and their order
pub record Spends : Type 0 where
  pub outcome : three_run.outcome ≡ Spent
  pub sweeps : three_run.sweeps ≡ 1
  pub turns : three_run.last.solver.m ≡ 1
  pub channels : three_run.last.solver.n ≡ 2
  pub shift : three_run.last.solver.e ≡ 0
  pub axis-1 : answer_to three_run.last (own (axis 1)) ≡ Axis (pos 26624) 7172
  pub row-1 : row_to three_run.last (own (axis 1)) ≡ pos 644245094 ∷ neg 858993459 ∷ pos 0 ∷ pos 0 ∷ pos 0 ∷ pos 0 ∷ pos 0 ∷ pos 0 ∷ []
  pub axis-2 : answer_to three_run.last (own (axis 2)) ≡ Axis (pos 75776) 7172
  pub row-2 : row_to three_run.last (own (axis 2)) ≡ pos 858993459 ∷ pos 644245094 ∷ pos 0 ∷ pos 0 ∷ pos 0 ∷ pos 0 ∷ pos 0 ∷ pos 0 ∷ []
  pub first-line : axis_at 2 (diagonal_of three_run.last) 0 ≡ 1
  pub second-line : axis_at 2 (diagonal_of three_run.last) 1 ≡ 0

pub spends : Spends
unfolding axis_at axis_among place_of stands_before run_after run_from tried is_bench within answer_to record_after_under called_under row_to
    no_pair no_turn
    answer_of value_of after_of_under accepted_of_under axis_of row_of fresh unloaded loaded_solver in_use swept_of work_of worked_of
    loose_of tabulate kept_entry entries_of rows_of flat_of chosen work_by work_pair work_pairs error_of table_error cyclic rows_from row
    matrix_of equal
    symmetric entries_within refusal_under diagonal sumℕ choose smallest_fit fits threshold rounded_up u w minus_sign negative rotation_of signed
    first
    second turn_matrix turn_axes turned_axes array eight at turned newp newq newpp newpq newqq hpp hpq hqp hqq at_pair rnd
spends =
    record {
      outcome = refl;
      sweeps = refl;
      turns = refl;
      channels = refl;
      shift = refl;
      axis-1 = refl;
      row-1 = refl;
      axis-2 = refl;
      row-2 = refl;
      first-line = refl;
      second-line = refl;
    }
