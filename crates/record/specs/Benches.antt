-- Document 02, W8: a bench outside the four is refused. Of every list of calls: the four differ in their counts alone, and a bench's count is of its
-- own refused calls.
use Rattle.std.specs.Prelude.{◌≡◌, true, cond, ◌&&◌, List, [], ◌∷◌, map, ℕ, ◌+◌, ◌≤◌, min, eqb}
use Rattle.ledger.specs.Bench.{NamedCall, by, is_bench}
use Rattle.limits.specs.Limits.{benches, refused_limit}
use Rattle.record.specs.Record.{after, answer_to, fresh, is_refused, record_after, refused_by, row_to}
use Rattle.record.specs.declared.Record.{Record}
use Rattle.record.specs.declared.AxisAnswer.{AxisAnswer}
use Rattle.record.specs.declared.query.Answer.TheVariants.{Refused}
use Rattle.refusal.specs.Refusal.{numbered}

-- the answers of a list of calls, each with its row, on the record that those before it leave
unfoldable pub answers_from : Record → List NamedCall → List AxisAnswer
answers_from r [] = []
answers_from r (c ∷ calls) = record { value = answer_to r c; row = row_to r c } ∷ answers_from (record_after r c) calls

-- 'A bench outside 1 to 4 gives 15, tried before everything else, and raises no count': nor does it change anything else
abbrev pub Outside-benches : Type 0
Outside-benches = (r : Record) (c : NamedCall) → ((1 ≤ c.bench) × (c.bench ≤ benches) → ⊥) → (answer_to r c ≡ Refused (numbered 15)) ×
    (record_after r c ≡ r)

-- how many calls of a bench are refused
unfoldable pub refused_among : ℕ → Record → List NamedCall → ℕ
refused_among bench r [] = 0
refused_among bench r (c ∷ calls) = cond (eqb c.bench bench && is_refused (answer_to r c)) 1 0 + refused_among bench (record_after r c) calls

-- 'the record has a refused-call count for each, every one stopping at the old ceiling. A refused call raises its own bench's count and no other.'
abbrev pub Counts : Type 0
Counts = (calls : List NamedCall) (bench : ℕ) → is_bench bench ≡ true →
    refused_by (after calls) bench ≡ min (refused_among bench fresh calls) refused_limit

abbrev pub renamed : (ℕ → ℕ) → NamedCall → NamedCall
renamed other c = by (other c.bench) c.call

-- 'Answers, kept matrix and axes don't depend on which of the four called': nor do n, m and e, if the four are renamed among themselves
abbrev pub Benches-alike : Type 0
Benches-alike =
    (other : ℕ → ℕ) → ((bench : ℕ) → is_bench (other bench) ≡ is_bench bench) → (calls : List NamedCall) →
    (answers_from fresh (map (renamed other) calls) ≡ answers_from fresh calls) × ((after (map (renamed other) calls)).solver ≡ (after calls).solver)
