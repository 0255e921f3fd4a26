-- Document 01, 'A run .. repeats: no loose pair, stop as settled; the last sweep made no turn, stop as still; limit reached, stop as spent; else
-- sweep': from a loaded record on, the outcome, the sweeps run and the record that they leave.
use Rattle.std.specs.Prelude.{Bool, true, false, cond, ℕ, zero, suc, eqb}
use Rattle.ledger.specs.Bench.{NamedCall, by}
use Rattle.ledger.specs.Call.{Call, sweep, loose_pair}
use Rattle.record.specs.Record.{answer_to, record_after}
use Rattle.record.specs.declared.run.Outcome.{Outcome}
use Rattle.record.specs.declared.run.Outcome.TheVariants.{Settled, Still, Spent}
use Rattle.record.specs.declared.Record.{Record}
use Rattle.record.specs.declared.run.Ended.{Ended}
use Rattle.record.specs.declared.query.Answer.{Answer}
use Rattle.record.specs.declared.query.Answer.TheVariants.{Loaded, SamplesLoaded, Turned, Swept, TournamentSwept, Pair, NoPair, Axis, Refused}

-- 'A run takes a fresh record of its own': since document 02's W8 a call names a bench, and a run's calls name bench 1
abbrev pub own_bench : ℕ
own_bench = 1

abbrev pub own : Call → NamedCall
own call = by own_bench call

-- a loose-pair call answers none
unfoldable pub no_pair : Answer → Bool
no_pair Loaded = false
no_pair (SamplesLoaded e) = false
no_pair (Turned made) = false
no_pair (Swept made) = false
no_pair (TournamentSwept made) = false
no_pair (Pair p q) = false
no_pair NoPair = true
no_pair (Axis entry error) = false
no_pair (Refused refusal) = false

-- a cyclic sweep answers that it made no turn; a run sweeps in cyclic order
unfoldable pub no_turn : Answer → Bool
no_turn Loaded = false
no_turn (SamplesLoaded e) = false
no_turn (Turned made) = false
no_turn (Swept made) = eqb made 0
no_turn (TournamentSwept made) = false
no_turn (Pair p q) = false
no_turn NoPair = false
no_turn (Axis entry error) = false
no_turn (Refused refusal) = false

-- a run: its outcome, how many sweeps were run, and the record as they leave it
abbrev pub Run : Type 0
Run = Ended Record

abbrev pub stop : Outcome → ℕ → Record → Run
stop outcome sweeps r = record { outcome = outcome; sweeps = sweeps; last = r }

-- 'no loose pair, stop as settled; the last sweep made no turn, stop as still', tried in that order, and then what is given
unfoldable pub tried : ℕ → Bool → ℕ → Record → Run → Run
tried sweeps idle t r later =
    cond (no_pair (answer_to r (own (loose_pair t)))) (stop Settled sweeps r) (cond idle (stop Still sweeps r) later)

-- 'limit reached, stop as spent; else sweep': with `left` sweeps to the limit
unfoldable pub run_from : ℕ → ℕ → Bool → ℕ → Record → Run
run_from zero sweeps idle t r = tried sweeps idle t r (stop Spent sweeps r)
run_from (suc left) sweeps idle t r =
    tried sweeps idle t r (run_from left (suc sweeps) (no_turn (answer_to r (own sweep))) t (record_after r (own sweep)))
