-- Short texts of calls on a book and what they print, as theorems about the definitions.
use Rattle.std.specs.Prelude.{◌≡◌, refl, true, false}
use Rattle.integer.specs.Padded.{padded}
use Rattle.integer.specs.Tabulate.{tabulate}
use Rattle.integer.specs.Within.{all_within, within}
use Rattle.text.specs.Ascii.{ascii}
use Rattle.text.specs.Decimal.{digits, digits_by}
use Rattle.text.specs.Line.{further, line}
use Rattle.text.specs.Numeral.{leading_zero, value_from}
use Rattle.text.specs.Parts.{before, onto, split}
use Rattle.refusal.specs.Refusal.{judged}
use Rattle.readings.specs.Samples.{sample_at, total, z}
use Rattle.sums.specs.Combined.{minus_of, placewise, plus_of}
use Rattle.sums.specs.Sums.{products, sums_of, totals}
use Rattle.book.specs.Book.{book_with, counts_of, dilutions_of, empty_book, no_book, samples_in}
use Rattle.book.specs.Calls.{answer_then, book_after, book_answer, book_refusal, channels_after, ith, samples_then, summary_then, without}
use Rattle.call_text.specs.Calls.{argument, number_limit, reading}
use Rattle.call_text.specs.Fields.{of_fields, with_numbers}
use Rattle.call_text.specs.Numbers.{each_number, numeral, signed_of, stands_for, unsigned_of, with_minus, without_minus}
use Rattle.play.specs.Text.{line_then, played_from, text_played, unknown_line}
use Rattle.book_text.specs.Answers.{answer_text, call_text, cross_row, cross_rows, sums_line}
use Rattle.book_text.specs.Calls.{book_call_by, book_call_of, no_number_of, one_number_of, sample_by}
use Rattle.book_text.specs.Text.{book_answers, book_plays, no_receiver, summary_text}

pub examples :
    (summary_text false (ascii "K\t1\nZ\n") ≡ ascii "X\t2\nX\t2\n")
    × (summary_text true (ascii "N\t2\n") ≡ ascii "N\n?\t2\n")
    × (summary_text false (ascii "N\t2\nA\t2\t3\t4\nZ\nK\t1\nB\n") ≡ ascii "N\nA\t1\nZ\t1\t6\t8\t36\t48\t64\nK\t0\nZ\t0\t0\t0\t0\t0\t0\n")
unfolding judged ascii summary_text text_played played_from line_then book_plays book_answers no_receiver unknown_line split onto
    book_call_of of_fields with_numbers book_call_by one_number_of no_number_of sample_by
    number_limit argument reading each_number before signed_of with_minus without_minus unsigned_of stands_for numeral leading_zero value_from
    all_within within
    call_text answer_text sums_line cross_row cross_rows book_answer book_after book_refusal answer_then channels_after samples_then summary_then
    without ith
    book_with counts_of dilutions_of empty_book no_book samples_in sums_of totals products total z sample_at tabulate padded plus_of minus_of
    placewise line
    further digits digits_by
examples = (refl, refl, refl)
