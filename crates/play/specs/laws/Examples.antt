-- Short texts of calls and what they print, as theorems about the definitions.
use Rattle.std.specs.Prelude.{◌≡◌, refl, true, false, []}
use Rattle.integer.specs.Matrix.{matrix_of}
use Rattle.integer.specs.Within.{all_within, within}
use Rattle.text.specs.Ascii.{ascii}
use Rattle.text.specs.Numeral.{leading_zero, value_from}
use Rattle.text.specs.Parts.{onto, split}
use Rattle.readings.specs.Refusal.{number_refusal, samples_refusal}
use Rattle.ledger.specs.Bench.{is_bench}
use Rattle.ledger.specs.Refusal.{equal, refusal_under, symmetric}
use Rattle.ledger.specs.Refusal.{entries_within}
use Rattle.record.specs.Record.{answer_to, called_under, counted, fresh, raised, record_after_under, row_to}
use Rattle.record.specs.Solver.{accepted_of_under, after_of_under, answer_of, loaded_solver, row_of, unloaded, value_of}
use Rattle.text.specs.Decimal.{digits, digits_by}
use Rattle.call_text.specs.Answers.{answer_line, shown, shown_as, told_of}
use Rattle.call_text.specs.Calls.{argument, call_by, call_of, call_of_fields, call_within, load_by}
use Rattle.call_text.specs.Calls.{named, named_by, number_limit, one_by, reading, samples_by}
use Rattle.call_text.specs.Calls.{sweep_by, turn_by}
use Rattle.call_text.specs.Fields.{of_fields, with_numbers}
use Rattle.call_text.specs.Numbers.{each_number, numeral, signed_of, stands_for, unsigned_of, with_minus, without_minus}
use Rattle.text.specs.Line.{further, line}
use Rattle.play.specs.Text.{line_then, played, played_from, record_answers, record_plays, text_played, unknown_line}

examples :
    -- no text; no matrix loaded, twice; a second line that no line feed ends; input that is left after a line, and in one
    (played false [] ≡ [])
    × (played false (ascii "W\t1\nW\t1\n") ≡ ascii "X\t10\t1\t0\t0\t0\nX\t10\t2\t0\t0\t0\n")
    × (played false (ascii "W\t1\nW\t1") ≡ ascii "X\t10\t1\t0\t0\t0\n?\t2\n")
    × (played true (ascii "W\t1\n") ≡ ascii "X\t10\t1\t0\t0\t0\n?\t2\n")
    × (played true (ascii "W\t1\nW\t1") ≡ ascii "X\t10\t1\t0\t0\t0\n?\t2\n")
    -- an empty line; no tag; no bench; no n; a number too many
    × (played false (ascii "\nW\t1\n") ≡ ascii "?\t1\n")
    × (played false (ascii "B\t1\t1\n") ≡ ascii "?\t1\n")
    × (played false (ascii "W\n") ≡ ascii "?\t1\n")
    × (played false (ascii "L\t1\n") ≡ ascii "?\t1\n")
    × (played false (ascii "W\t1\t1\n") ≡ ascii "?\t1\n")
    × (played false (ascii "A\t1\t1\t2\n") ≡ ascii "?\t1\n")
    -- no numbers
    × (played false (ascii "A\t1\t01\n") ≡ ascii "?\t1\n")
    × (played false (ascii "A\t1\t-0\n") ≡ ascii "?\t1\n")
    × (played false (ascii "A\t1\t-\n") ≡ ascii "?\t1\n")
    × (played false (ascii "A\t-01\t1\n") ≡ ascii "?\t1\n")
    -- n of 9 and of −1; too few entries; entries of −10,000,000,000 and of 2^64 + 1
    × (played false (ascii "L\t1\t9\n") ≡ ascii "X\t5\t1\t0\t0\t0\n")
    × (played false (ascii "L\t1\t-1\n") ≡ ascii "X\t5\t1\t0\t0\t0\n")
    × (played false (ascii "L\t1\t2\n") ≡ ascii "X\t6\t1\t0\t0\t0\n")
    × (played false (ascii "L\t1\t2\t-10000000000\t0\t0\t1\n") ≡ ascii "X\t8\t1\t0\t0\t0\n")
    × (played false (ascii "L\t1\t2\t18446744073709551617\t0\t0\t1\n") ≡ ascii "X\t8\t1\t0\t0\t0\n")
    -- after a load: t of −1 and of 10,000,000,000; i of −1 and of 2^64 + 1
    × (played false (ascii "L\t1\t2\t1\t0\t0\t1\nQ\t1\t-1\nQ\t1\t10000000000\n") ≡ ascii "L\nX\t2\t1\t0\t0\t0\nX\t2\t2\t0\t0\t0\n")
    × (played false (ascii "L\t1\t2\t1\t0\t0\t1\nA\t1\t-1\nA\t1\t18446744073709551617\n") ≡ ascii "L\nX\t9\t1\t0\t0\t0\nX\t9\t2\t0\t0\t0\n")
unfolding ascii played text_played played_from line_then record_plays record_answers unknown_line split onto
    call_of call_within number_limit call_of_fields of_fields with_numbers named_by
    named call_by load_by
    turn_by sweep_by one_by argument each_number signed_of with_minus without_minus unsigned_of stands_for numeral leading_zero value_from
    all_within
    within answer_line told_of shown shown_as row_to row_of is_bench answer_to record_after_under called_under raised counted fresh unloaded
    after_of_under
    answer_of accepted_of_under loaded_solver value_of refusal_under entries_within symmetric equal matrix_of line further digits digits_by
examples = (refl, refl, refl, refl, refl, refl, refl, refl, refl, refl, refl, refl, refl, refl, refl, refl, refl, refl, refl, refl, refl, refl)

-- Benches
benches :
    -- each has its own count
    (played false (ascii "W\t4\nO\t2\nT\t4\t1\t2\nA\t3\t1\nQ\t1\t0\n") ≡
    ascii "X\t10\t0\t0\t0\t1\nX\t10\t0\t1\t0\t1\nX\t10\t0\t1\t0\t2\nX\t10\t0\t1\t1\t2\nX\t10\t1\t1\t1\t2\n")
    -- 0, 5, −1 and 2^64 + 1 are no benches: 15, before every other refusal, and no count is raised; nor is the matrix loaded
    × (played false (ascii "W\t0\nL\t5\t9\nA\t-1\t1\nQ\t18446744073709551617\t0\nW\t2\n") ≡
    ascii "X\t15\t0\t0\t0\t0\nX\t15\t0\t0\t0\t0\nX\t15\t0\t0\t0\t0\nX\t15\t0\t0\t0\t0\nX\t10\t0\t1\t0\t0\n")
    × (played false (ascii "L\t5\t2\t1\t0\t0\t1\nW\t1\n") ≡ ascii "X\t15\t0\t0\t0\t0\nX\t10\t1\t0\t0\t0\n")
    -- nor with a matrix loaded
    × (played false (ascii "L\t1\t2\t1\t0\t0\t1\nT\t0\t2\t1\nO\t5\nM\t6\t9\t0\n") ≡
    ascii "L\nX\t15\t0\t0\t0\t0\nX\t15\t0\t0\t0\t0\nX\t15\t0\t0\t0\t0\n")
unfolding ascii played text_played played_from line_then record_plays record_answers unknown_line split onto
    call_of call_within number_limit call_of_fields of_fields with_numbers named_by
    named call_by load_by
    turn_by sweep_by one_by argument each_number signed_of with_minus without_minus unsigned_of stands_for numeral leading_zero value_from
    all_within
    within answer_line told_of shown shown_as row_to row_of is_bench answer_to record_after_under called_under raised counted fresh unloaded
    after_of_under
    answer_of accepted_of_under loaded_solver value_of samples_by reading refusal_under entries_within symmetric equal matrix_of line further
    digits digits_by
benches = (refl, refl, refl, refl)

-- Loads of samples
samples :
    -- a negative count, and one of 2^64 + 1: 2; too few counts: 6; one sample: 3
    (played false (ascii "M\t1\t2\t1\t1\t0\t-1\nM\t1\t2\t1\t1\t0\t18446744073709551617\n") ≡ ascii "X\t2\t1\t0\t0\t0\nX\t2\t2\t0\t0\t0\n")
    × (played false (ascii "M\t1\t2\t1\t1\t0\nM\t1\t2\t1\t1\t0\t0\n") ≡ ascii "X\t6\t1\t0\t0\t0\nX\t3\t2\t0\t0\t0\n")
    -- no k; a k with a minus; fewer than k numbers after it
    × (played false (ascii "M\t1\t2\n") ≡ ascii "?\t1\n")
    × (played false (ascii "M\t1\t2\t-1\n") ≡ ascii "?\t1\n")
    × (played false (ascii "M\t1\t2\t2\t1\n") ≡ ascii "?\t1\n")
unfolding ascii played text_played played_from line_then record_plays record_answers unknown_line split onto
    call_of call_within number_limit call_of_fields of_fields with_numbers named_by
    named call_by
    samples_by reading samples_refusal number_refusal argument each_number signed_of with_minus without_minus unsigned_of stands_for
    numeral leading_zero
    value_from all_within within answer_line told_of shown shown_as row_to row_of is_bench answer_to record_after_under called_under raised
    counted fresh unloaded
    after_of_under answer_of refusal_under line further digits digits_by
samples = (refl, refl, refl, refl, refl)
