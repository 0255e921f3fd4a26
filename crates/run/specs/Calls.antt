-- A run as a list of calls on a fresh record, each of bench 1.
use Rattle.std.specs.Prelude.{List, [], ◌∷◌, ℕ, zero, suc}
use Rattle.ledger.specs.Bench.{NamedCall}
use Rattle.ledger.specs.Call.{Call, loose_pair, sweep}
use Rattle.record.specs.Run.{own}

-- loose pair and sweep in turn, `sweeps` times, and a last loose pair
unfoldable pub rounds : ℕ → ℕ → List NamedCall
rounds t zero = own (loose_pair t) ∷ []
rounds t (suc sweeps) = own (loose_pair t) ∷ own sweep ∷ rounds t sweeps

-- after the load that is given
unfoldable pub calls_of : Call → ℕ → ℕ → List NamedCall
calls_of first t sweeps = own first ∷ rounds t sweeps
