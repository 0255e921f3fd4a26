-- The line of each answer, and lines of calls: the sweeps, benches and a load of samples, as README has them.
use Rattle.std.specs.Prelude.{◌≡◌, refl, true, false, [], ◌∷◌, pos, neg_ℤ}
use Rattle.std.specs.Prelude.{None, Some}
use Rattle.ledger.specs.Bench.{by}
use Rattle.ledger.specs.Call.{axis, load_samples, loose_pair, sweep, tournament_sweep, turn}
use Rattle.record.specs.declared.query.Answer.{Answer}
use Rattle.record.specs.declared.query.Answer.TheVariants.{Loaded, SamplesLoaded, Turned, Swept, TournamentSwept, Pair, NoPair, Axis, Refused}
use Rattle.refusal.specs.Refusal.{numbered}
use Rattle.text.specs.Ascii.{ascii}
use Rattle.text.specs.Decimal.{digits, digits_by, number}
use Rattle.text.specs.Numeral.{leading_zero, value_from}
use Rattle.integer.specs.Within.{all_within, within}
use Rattle.text.specs.Line.{line, further}
use Rattle.text.specs.Parts.{onto, split}
use Rattle.call_text.specs.Answers.{shown, shown_as}
use Rattle.call_text.specs.Calls.{argument, call_by, call_of, call_of_fields, call_within, most_reading, named, named_by, number_limit, one_by}
use Rattle.call_text.specs.Calls.{reading, samples_by, sweep_by, turn_by}
use Rattle.call_text.specs.Fields.{of_fields, with_numbers}
use Rattle.call_text.specs.Numbers.{beyond, each_number, numeral, signed_of, stands_for, unsigned_of, with_minus, without_minus}
use Rattle.call_text.specs.declared.answer.Told.{Told}

-- an answer on two channels, after refused calls of each bench
abbrev told : Answer → Told
told answer =
    record {
      answer = answer;
      row = pos 644245094 ∷ neg_ℤ (pos 858993459) ∷ pos 0 ∷ pos 0 ∷ pos 0 ∷ pos 0 ∷ pos 0 ∷ pos 0 ∷ [];
      n = 2;
      refused = 3 ∷ 0 ∷ 4294967295 ∷ 1 ∷ [];
    }

-- p before q; a_ii, its error, and as many numbers of the row as there are channels; the refusal before the counts
lines : (shown (told Loaded) ≡ ascii "L\n") × (shown (told (SamplesLoaded 25)) ≡ ascii "M\t25\n") × (shown (told (Turned true)) ≡ ascii "T\t1\n") ×
    (shown (told (Turned false)) ≡ ascii "T\t0\n") × (shown (told (Swept 28)) ≡ ascii "W\t28\n") ×
    (shown (told (TournamentSwept 27)) ≡ ascii "O\t27\n") × (shown (told (Pair 3 7)) ≡ ascii "Q\t3\t7\n") ×
    (shown (told NoPair) ≡ ascii "Q\tnone\n") ×
    (shown (told (Axis (neg_ℤ (pos 26624)) 7172)) ≡ ascii "A\t-26624\t7172\t644245094\t-858993459\n") ×
    (shown (told (Refused (numbered 10))) ≡ ascii "X\t10\t3\t0\t4294967295\t1\n")
unfolding ascii shown shown_as line further number digits digits_by
lines = (refl, refl, refl, refl, refl, refl, refl, refl, refl, refl)

-- `W` is the cyclic sweep, and `O` the tournament sweep; both have a bench and no other number
sweeps : (call_of (ascii "W\t1") ≡ Some (by 1 sweep)) × (call_of (ascii "O\t4") ≡ Some (by 4 tournament_sweep)) × (call_of (ascii "W") ≡ None) ×
    (call_of (ascii "O") ≡ None) × (call_of (ascii "W\t1\t1") ≡ None) × (call_of (ascii "O\t4\t1") ≡ None)
unfolding ascii call_of call_within call_of_fields of_fields with_numbers named_by named call_by sweep_by argument each_number signed_of without_minus
    unsigned_of stands_for numeral number_limit split onto leading_zero value_from all_within within
sweeps = (refl, refl, refl, refl, refl, refl)

-- the bench comes first; one that is no bench is a call's too
benches : (call_of (ascii "T\t3\t1\t2") ≡ Some (by 3 (turn 1 2))) × (call_of (ascii "Q\t2\t7") ≡ Some (by 2 (loose_pair 7))) ×
    (call_of (ascii "A\t0\t5") ≡ Some (by 0 (axis 5))) × (call_of (ascii "A\t-1\t5") ≡ Some (by beyond (axis 5)))
unfolding ascii call_of call_within call_of_fields of_fields with_numbers named_by named call_by turn_by one_by argument each_number signed_of
    with_minus without_minus unsigned_of stands_for numeral number_limit split onto leading_zero value_from all_within within
benches = (refl, refl, refl, refl)

-- k dilutions and then the counts; a negative count is a call, and so is a k of 0; a k with a minus and too few numbers after k are none
samples : (call_of (ascii "M\t1\t2\t2\t1\t100\t3\t0\t5\t7") ≡ Some (by 1 (load_samples 2 (1 ∷ 100 ∷ []) (3 ∷ 0 ∷ 5 ∷ 7 ∷ [])))) ×
    (call_of (ascii "M\t1\t2\t1\t1\t3\t-1") ≡ Some (by 1 (load_samples 2 (1 ∷ []) (3 ∷ most_reading ∷ [])))) ×
    (call_of (ascii "M\t1\t2\t0") ≡ Some (by 1 (load_samples 2 [] []))) × (call_of (ascii "M\t1\t2\t-1\t1") ≡ None) ×
    (call_of (ascii "M\t1\t2\t3\t1\t1") ≡ None)
unfolding ascii call_of call_within call_of_fields of_fields with_numbers named_by named call_by samples_by argument reading each_number number_limit
    split onto signed_of with_minus without_minus unsigned_of stands_for numeral leading_zero value_from all_within within
samples = (refl, refl, refl, refl, refl)
