-- Document 01, 'The record and its calls': the calls, each with its arguments; a sweep with the order of its pairs, for document 02's W10; and the
-- second load of its W5, which 'takes n and samples': a dilution each, and n counts each, sample after sample.
use Rattle.std.specs.Prelude.{ℕ, List, ℤ}
use Rattle.ledger.specs.declared.Order.{Order}
use Rattle.ledger.specs.declared.Order.TheVariants.{Cyclic, Tournament}

pub data Call : Type 0 where
  load : (n : ℕ) (numbers : List ℤ) → Call
  load_samples : (n : ℕ) (dilutions counts : List ℕ) → Call
  turn : (p q : ℕ) → Call
  sweep_in : (order : Order) → Call
  loose_pair : (t : ℕ) → Call
  axis : (i : ℕ) → Call

-- document 01's sweep, and the tournament sweep
abbrev pub sweep : Call
sweep = sweep_in Cyclic

abbrev pub tournament_sweep : Call
tournament_sweep = sweep_in Tournament
