-- Document 02, W8: 'Each call on the record now names a bench from 1 to 4, and the record has a refused-call count for each'. What a named call
-- answers, the record that it leaves, and the record after a list of them. What a call does to matrix and axes is in specs/Solver.
use Rattle.std.specs.Prelude.{ℕ, ◌+◌, ◌-◌, Bool, true, false, cond, List, [], ◌∷◌, eqb, ltb, ℤ, pos, get_or, replicate, set}
use Rattle.ledger.specs.Bench.{NamedCall, is_bench}
use Rattle.ledger.specs.Refusal.{refusal_under}
use Rattle.limits.specs.Limits.{benches, entry_limit, refused_limit}
use Rattle.record.specs.Solver.{after_of_under, answer_of, row_of, unloaded}
use Rattle.record.specs.declared.Record.{Record}
use Rattle.record.specs.declared.query.Answer.{Answer}
use Rattle.record.specs.declared.query.Answer.TheVariants.{Loaded, SamplesLoaded, Turned, Swept, TournamentSwept, Pair, NoPair, Axis, Refused}
use Rattle.refusal.specs.Refusal.{numbered}

-- 'A fresh record holds no matrix and a count of 0 refused calls', for each bench
unfoldable pub fresh : Record
fresh = record { solver = unloaded; refused = replicate benches 0 }

-- the count of a bench
unfoldable pub refused_by : Record → ℕ → ℕ
refused_by r bench = get_or r.refused (bench - 1) 0

-- 'every one stopping at the old ceiling': one refused call more
unfoldable pub counted : ℕ → ℕ
counted count = cond (ltb count refused_limit) (count + 1) count

-- 'raises its own bench's count and no other'
unfoldable pub raised : ℕ → List ℕ → List ℕ
raised bench counts = set counts (bench - 1) (counted (get_or counts (bench - 1) 0))

-- 'A bench outside 1 to 4 gives 15, tried before everything else'
unfoldable pub answer_to : Record → NamedCall → Answer
answer_to r c = cond (is_bench c.bench) (answer_of r.solver c.call) (Refused (numbered 15))

-- row i of v, with the answer of an axis call
unfoldable pub row_to : Record → NamedCall → List ℤ
row_to r c = cond (is_bench c.bench) (row_of r.solver c.call) (replicate 8 (pos 0))

-- the record after a call of one of the four benches, under a limit of the entries: 'A refused call raises its own bench's count'
unfoldable pub called_under : ℕ → Record → NamedCall → Record
called_under limit r c =
    let number = refusal_under limit r.solver.n r.solver.m c.call in
    record {
      solver = after_of_under limit r.solver c.call;
      refused = cond (eqb number 0) r.refused (raised c.bench r.refused);
    }

-- 'A bench outside 1 to 4 .. raises no count', and changes nothing
unfoldable pub record_after_under : ℕ → Record → NamedCall → Record
record_after_under limit r c = cond (is_bench c.bench) (called_under limit r c) r

-- under the limit of document 02's W9
abbrev pub record_after : Record → NamedCall → Record
record_after = record_after_under entry_limit

-- the record after a list of calls, from any record under a limit of the entries, under that of W9, and then from a fresh one
unfoldable pub after_from_under : ℕ → Record → List NamedCall → Record
after_from_under limit r [] = r
after_from_under limit r (c ∷ calls) = after_from_under limit (record_after_under limit r c) calls

abbrev pub after_from : Record → List NamedCall → Record
after_from = after_from_under entry_limit

unfoldable pub after : List NamedCall → Record
after calls = after_from fresh calls

-- whether an answer is a refusal
unfoldable pub is_refused : Answer → Bool
is_refused Loaded = false
is_refused (SamplesLoaded e) = false
is_refused (Turned made) = false
is_refused (Swept made) = false
is_refused (TournamentSwept made) = false
is_refused (Pair p q) = false
is_refused NoPair = false
is_refused (Axis entry error) = false
is_refused (Refused refusal) = true
