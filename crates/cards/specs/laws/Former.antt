-- Document 02, W9: under the former limit card 11 is document 01's, and an entry of 1,048,577 is refused, which today's limit takes. A record and a
-- ledger that the former limit has left so go on.
use Rattle.std.specs.Prelude.{◌≡◌, refl, List, [], ◌∷◌, pos, replicate, take}
use Rattle.std.proofs.Common.{le_refl}
use Rattle.integer.specs.Matrix.{matrix_of, row_major}
use Rattle.integer.specs.Padded.{padded}
use Rattle.integer.specs.Tabulate.{tabulate}
use Rattle.ledger.specs.Bench.{NamedCall, by, is_bench}
use Rattle.ledger.specs.Call.{load, load_samples, loose_pair}
use Rattle.ledger.specs.Ledger.{empty, accepted_under, loaded_state, plain_state}
use Rattle.ledger.specs.Ledger.{size_of, turns_of, ledger_from, ledger_from_under, ledger_step_under}
use Rattle.ledger.specs.Ledger.{named_step_under}
use Rattle.ledger.specs.Refusal.{equal, entries_within, refusal_of, refusal_under, symmetric}
use Rattle.limits.specs.Limits.{former_entry_limit}
use Rattle.limits.specs.laws.Values.{former-below}
use Rattle.record.specs.Demand3.{Certifies}
use Rattle.record.specs.Record.{after_from, after_from_under, called_under, fresh, record_after_under}
use Rattle.record.specs.Solver.{accepted_of_under, after_of_under, loaded_solver, samples_solver, unloaded}
use Rattle.record.proofs.Demand3proof.{goes_on}
use Rattle.rounding.specs.Rounding.{rnd}
use Rattle.scatter.specs.Table.{S, scatter, largest, smallest_shift, shift_under, entries_under, table_from_under, table_under}
use Rattle.integer.specs.Within.{all_within, within}
use Rattle.readings.specs.Refusal.{number_refusal, samples_refusal}
use Rattle.readings.specs.Samples.{sample_at, samples, total, z}
use Rattle.cards.specs.Cards.{two_by_two, two_samples}

-- 'every S is 42,948,362,250,000, e = 26, entry 639,980'
card11 : ((table_under former_entry_limit 2 two_samples).e ≡ 26) × (take 4 (table_under former_entry_limit 2 two_samples).entries ≡
    replicate 4 (pos 639_980))
unfolding rnd matrix_of tabulate row_major total z S scatter largest smallest_shift shift_under entries_under padded table_from_under table_under
card11 = (refl, refl)

beyond : (refusal_under former_entry_limit 0 0 (load 2 (two_by_two (pos 1_048_577) (pos 1) (pos 0))) ≡ 8) ×
    (refusal_of 0 0 (load 2 (two_by_two (pos 1_048_577) (pos 1) (pos 0))) ≡ 0) ×
    (refusal_of 0 0 (load 2 (two_by_two (pos 2_097_153) (pos 1) (pos 0))) ≡ 8)
unfolding refusal_under entries_within symmetric equal matrix_of
beyond = (refl, refl, refl)

abbrev refused : List NamedCall
refused = by 1 (load 2 (two_by_two (pos 1_048_577) (pos 1) (pos 0))) ∷ []

-- the former limit leaves neither of them a matrix; today's does
left : ((after_from_under former_entry_limit fresh refused).solver.n ≡ 0) × (ledger_from_under former_entry_limit empty refused ≡ empty) ×
    ((after_from fresh refused).solver.n ≡ 2) × (size_of (ledger_from empty refused) ≡ 2)
unfolding is_bench within after_from_under record_after_under called_under after_of_under accepted_of_under loaded_solver fresh unloaded
    ledger_from_under
    named_step_under ledger_step_under accepted_under plain_state loaded_state size_of turns_of refusal_under entries_within symmetric equal matrix_of
left = (refl, refl, refl, refl)

-- card 11's samples: under the former limit the record's e is 26, and it stays so under today's, where they would have 25
abbrev strong : NamedCall
strong = by 1 (load_samples 2 (100 ∷ 100 ∷ []) (65_535 ∷ 65_535 ∷ 0 ∷ 0 ∷ []))

shifted : ((after_from (after_from_under former_entry_limit fresh (strong ∷ [])) (by 2 (loose_pair 0) ∷ [])).solver.e ≡ 26) ×
    ((after_from fresh (strong ∷ by 2 (loose_pair 0) ∷ [])).solver.e ≡ 25)
unfolding is_bench within after_from_under record_after_under called_under after_of_under accepted_of_under samples_solver loaded_solver fresh
    unloaded
    refusal_under samples_refusal number_refusal all_within tabulate row_major samples sample_at total z S scatter largest smallest_shift shift_under
shifted = (refl, refl)

-- and whatever calls come then, demand 3 holds
pub goes : (later : List NamedCall) →
    Certifies (after_from (after_from_under former_entry_limit fresh refused) later)
    (ledger_from (ledger_from_under former_entry_limit empty refused) later)
goes later = (goes_on former_entry_limit (le_refl former_entry_limit) former-below refused later).1

-- the range of a tolerance did not move
tolerance : (refusal_of 2 0 (loose_pair 1_048_576) ≡ 0) × (refusal_of 2 0 (loose_pair 1_048_577) ≡ 2)
unfolding refusal_under
tolerance = (refl, refl)
