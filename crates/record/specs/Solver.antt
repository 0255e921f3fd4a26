-- Document 01, 'The record and its calls': what each call answers, and what it leaves of the matrix and its axes. Document 02, W5: the record
-- 'remembers its e'. The counts of refused calls are the record's (specs/Record): here a refused call leaves all as it is.
use Rattle.std.specs.Prelude.{ℕ, ◌-◌, cond, List, eqb, ℤ, pos, ◌*ℤ◌, is_some, replicate}
use Rattle.ledger.specs.Axis.{error_of}
use Rattle.ledger.specs.Call.{Call, load, load_samples, turn, sweep_in, loose_pair, axis}
use Rattle.limits.specs.Limits.{entry_limit, units, whole}
use Rattle.ledger.specs.Order.{pairs_in}
use Rattle.ledger.specs.Pairs.{cyclic}
use Rattle.ledger.specs.declared.Order.{Order}
use Rattle.ledger.specs.declared.Order.TheVariants.{Cyclic, Tournament}
use Rattle.ledger.specs.Refusal.{refusal_of, refusal_under}
use Rattle.readings.specs.Samples.{samples}
use Rattle.scatter.specs.Table.{scatter, shift, shift_under, entries_under}
use Rattle.turn.specs.InUse.{in_use}
use Rattle.turn.specs.Turn.{at}
use Rattle.record.specs.Work.{chosen, work_pair, work_pairs}
use Rattle.record.specs.Loose.{loose_of}
use Rattle.record.specs.declared.query.Answer.{Answer}
use Rattle.record.specs.declared.query.Answer.TheVariants.{Loaded, SamplesLoaded, Turned, Swept, TournamentSwept, Axis, Refused}
use Rattle.integer.specs.Matrix.{diagonal, matrix_of}
use Rattle.record.specs.Flat.{kept_entry, entries_of, rows_of, flat_of}
use Rattle.record.specs.declared.solver.Solver.{Solver}
use Rattle.record.specs.declared.work.Work.{Work}
use Rattle.refusal.specs.Refusal.{numbered}

-- 'A fresh record holds no matrix'
unfoldable pub unloaded : Solver
unloaded = record { n = 0; m = 0; e = 0; a = replicate 64 (pos 0); v = replicate 64 (pos 0) }

-- Kept entries are these times 1024, v is 2^30 on the diagonal and 0 elsewhere, m = 0; with the e that it remembers
unfoldable pub loaded_solver : ℕ → List ℤ → ℕ → Solver
loaded_solver n numbers shift =
    record {
      n = n;
      m = 0;
      e = shift;
      a = flat_of (in_use n (λ i j. pos units *ℤ matrix_of n numbers i j));
      v = flat_of (in_use n (diagonal (pos whole)));
    }

-- the matrix and axes at work, and back
unfoldable pub work_of : Solver → Work
work_of s = record { n = s.n; matrix = rows_of s.a; axes = rows_of s.v; m = s.m }

unfoldable pub worked_of : Solver → Work → Solver
worked_of s w = record { n = s.n; m = w.m; e = s.e; a = flat_of (at w.matrix); v = flat_of (at w.axes) }

-- Turn p, q: choose, then turn if one was chosen
unfoldable pub turned_of : Solver → ℕ → ℕ → Solver
turned_of s p q = worked_of s (work_pair (work_of s) (record { p = p - 1; q = q - 1 }))

-- Sweep: the pairs in their order, each chosen on the matrix as it then stands
unfoldable pub swept_of : Solver → Order → Solver
swept_of s order = worked_of s (work_pairs (work_of s) (pairs_in order s.n))

-- 'loads their table': its entries and its e, under a limit of the entries
unfoldable pub samples_solver : ℕ → ℕ → List ℕ → List ℕ → Solver
samples_solver limit n dilutions counts =
    let us = scatter n (samples n dilutions counts) in
    loaded_solver n (entries_under limit us) (shift_under limit us)

-- what a call leaves that is not refused; e 'is 0 for a plain load'
unfoldable pub accepted_of_under : ℕ → Solver → Call → Solver
accepted_of_under limit s (load n numbers) = loaded_solver n numbers 0
accepted_of_under limit s (load_samples n dilutions counts) = samples_solver limit n dilutions counts
accepted_of_under limit s (turn p q) = turned_of s p q
accepted_of_under limit s (sweep_in order) = swept_of s order
accepted_of_under limit s (loose_pair t) = s
accepted_of_under limit s (axis i) = s

-- under a limit of the entries
unfoldable pub after_of_under : ℕ → Solver → Call → Solver
after_of_under limit s call = cond (eqb (refusal_under limit s.n s.m call) 0) (accepted_of_under limit s call) s

-- under the limit of document 02's W9
abbrev pub accepted_of : Solver → Call → Solver
accepted_of = accepted_of_under entry_limit

abbrev pub after_of : Solver → Call → Solver
after_of = after_of_under entry_limit

-- how many turns a sweep made
abbrev pub swept_in : Order → ℕ → Answer
swept_in Cyclic made = Swept made
swept_in Tournament made = TournamentSwept made

-- The answer: the e of samples that were loaded, whether a turn was made, how many a sweep made, a pair or none, a_ii and its error r_i
unfoldable pub value_of : Solver → Call → Answer
value_of s (load n numbers) = Loaded
value_of s (load_samples n dilutions counts) = SamplesLoaded (shift (scatter n (samples n dilutions counts)))
value_of s (turn p q) = Turned (is_some (chosen (work_of s) (record { p = p - 1; q = q - 1 })))
value_of s (sweep_in order) = swept_in order ((swept_of s order).m - s.m)
value_of s (loose_pair t) = loose_of (kept_entry s.a) t (cyclic s.n)
value_of s (axis i) = Axis (kept_entry s.a (i - 1) (i - 1)) (error_of s.n s.e (kept_entry s.a) s.m (i - 1))

unfoldable pub answer_of : Solver → Call → Answer
answer_of s call =
    let number = refusal_of s.n s.m call in
    cond (eqb number 0) (value_of s call) (Refused (numbered number))

-- row i of v, with the answer of an axis call; zeros where it is refused
unfoldable pub axis_of : Solver → ℕ → List ℤ
axis_of s i = cond (eqb (refusal_of s.n s.m (axis i)) 0) (entries_of s.v (i - 1)) (replicate 8 (pos 0))

-- and zeros with every other answer
unfoldable pub row_of : Solver → Call → List ℤ
row_of s (load n numbers) = replicate 8 (pos 0)
row_of s (load_samples n dilutions counts) = replicate 8 (pos 0)
row_of s (turn p q) = replicate 8 (pos 0)
row_of s (sweep_in order) = replicate 8 (pos 0)
row_of s (loose_pair t) = replicate 8 (pos 0)
row_of s (axis i) = axis_of s i
