-- Card 12: what the program prints for the printed job, line by line.
use Rattle.std.specs.Prelude.{◌≡◌, refl, false, [], ◌∷◌, pos}
use Rattle.std.proofs.Common.{ap, ◌∙◌}
use Rattle.integer.specs.Matrix.{matrix_of, row_major}
use Rattle.integer.specs.Tabulate.{tabulate}
use Rattle.job.specs.Job.{Job, accepted, with_sample, next_line, nothing, ended, judged_line, job_after, begun, job_of_lines, job_of}
use Rattle.readings.specs.Ranges.{parameters_in_range}
use Rattle.job.specs.Range.{sample_in_range}
use Rattle.job.specs.Reply.{printed_by, printed_of}
use Rattle.job.specs.Text.{number_in, numbers_of, is_tag, record_of, line_of}
use Rattle.ledger.specs.Bench.{is_bench}
use Rattle.ledger.specs.Call.{load}
use Rattle.ledger.specs.Refusal.{equal, entries_within, refusal_under, symmetric}
use Rattle.readings.specs.Refusal.{number_refusal, samples_refusal}
use Rattle.record.specs.Record.{called_under, fresh, record_after, record_after_under}
use Rattle.record.specs.Run.{own, run_from}
use Rattle.record.specs.Solver.{accepted_of_under, after_of_under, samples_solver, unloaded}
use Rattle.run.specs.Run.{run_after}
use Rattle.report.specs.AxisNumbers.{axis_values}
use Rattle.report.specs.Report.{head_of, load_for, run_for, line_r, line_a, report_of, run_report}
use Rattle.run.specs.Word.{outcome_word}
use Rattle.rounding.specs.Rounding.{rnd}
use Rattle.scatter.specs.Table.{S, scatter, largest, smallest_shift, shift_under, entries_under}
use Rattle.readings.specs.Samples.{samples, sample_at, total, z}
use Rattle.text.specs.Ascii.{ascii}
use Rattle.text.specs.Decimal.{digits, digits_by, number}
use Rattle.text.specs.Line.{line, further, number_line, word_line}
use Rattle.text.specs.Lines.{lines}
use Rattle.text.specs.Numeral.{leading_zero, value_from}
use Rattle.text.specs.Parts.{onto, split, before}
use Rattle.integer.specs.Within.{within, all_within}
use Rattle.cards.specs.Cards.{two_by_two, job_text, report_text}
use Rattle.cards.specs.laws.Runs.{three_run, spends}

abbrev job : Job
job = record { n = 2; limit = 1; tolerance = 0; dilutions = 1 ∷ 5 ∷ 1 ∷ []; counts = 0 ∷ 0 ∷ 1 ∷ 0 ∷ 5 ∷ 5 ∷ [] }

read : job_of job_text ≡ accepted job
unfolding ascii job_of split onto all_within leading_zero value_from number_in before numbers_of is_tag record_of line_of within parameters_in_range
    sample_in_range with_sample next_line nothing ended judged_line job_after begun job_of_lines
read = refl

-- the samples' table, e = 0, is what is loaded
loaded : record_after fresh (own (load_for job)) ≡ record_after fresh (own (load 2 (two_by_two (pos 50) (pos 25) (pos 50))))
unfolding is_bench within record_after_under called_under after_of_under accepted_of_under samples_solver fresh unloaded refusal_under samples_refusal
    number_refusal all_within entries_within symmetric equal matrix_of tabulate row_major samples sample_at total z S scatter largest smallest_shift
    shift_under entries_under rnd
loaded = refl

ran : run_for job ≡ three_run
unfolding run_for run_after
ran = ap (run_from 1 0 false 0) loaded

first : line_r 3 three_run ≡ ascii "R\t2\t3\t0\t1\t1\tspent\n"
unfolding ascii line_r head_of outcome_word word_line line further number digits digits_by
first = rw (spends.channels, spends.shift, spends.sweeps, spends.turns, spends.outcome)

axis-1 : line_a three_run.last 1 ≡ ascii "A\t1\t26624\t7172\t644245094\t-858993459\n"
unfolding ascii line_a axis_values number_line line further number digits digits_by
axis-1 = rw (spends.channels, spends.axis-1, spends.row-1)

axis-2 : line_a three_run.last 2 ≡ ascii "A\t2\t75776\t7172\t858993459\t644245094\n"
unfolding ascii line_a axis_values number_line line further number digits digits_by
axis-2 = rw (spends.channels, spends.axis-2, spends.row-2)

report : report_of job ≡ report_text
unfolding ascii report_of run_report lines
report = rw (ran, first, spends.channels, spends.first-line, spends.second-line, axis-2, axis-1)

pub prints-the-report : printed_of report_of job_text ≡ report_text
unfolding printed_of printed_by ascii report_of run_report lines
prints-the-report =
    ap (printed_by report_of) read
    ∙ rw (ran, first, spends.channels, spends.first-line, spends.second-line, axis-2, axis-1)
